-- Rings that are laid beside others, a list after the other.
use Rattle.kit_words.proofs.Common.{◌≡◌, ℕ, refl, sym, ap, ap₂, ◌∙◌, subst, List, [], ◌++◌, map, Some, is_some, IsTrue}
use Rattle.kit_words.proofs.Common.{false≢true, map-append}
use Rattle.std.specs.FinMap as table
use Rattle.ring_machine.specs.Common.{are_distinct}
use Rattle.ring_machine.proofs.Common.{distinct-append, in_contains, there}
use Rattle.vertex_index.specs.Common.{Placement}
use Rattle.segment_index.specs.Common.{SegmentSet}
use Rattle.arc_tables.specs.Common.{Rings, edges}
use Rattle.feature_exchange.specs.Common.{numbers_of, AreThere, AreAdded, KeepsPlaces, AreLaid}
use Rattle.ring_store.specs.Common.{Stands}
use Rattle.feature_exchange.specs.declared.laid.LaidRing.{LaidRing}
use Rattle.feature_exchange.proofs.Series.{number_there, there_still, there_none, added_first}
use Rattle.feature_exchange.proofs.Staying.{added_twice, ring_at-stays}

module _ {A : Type 0} where
  pub laid_none : (p : Placement) (m : Rings) (laid : List (LaidRing A)) → AreLaid p m laid p m laid
  laid_none p m laid = record {
    there = λ t. t;
    added = λ first t a. a;
    kept = λ k x e. e;
    stands = λ r k. k;
    still = λ r k. refl;
  }

  pub laid_as : (p : Placement) (m : Rings) (laid : List (LaidRing A)) (q : Placement) (n : Rings) (more : List (LaidRing A))
      → q ≡ p → n ≡ m → more ≡ laid → AreLaid p m laid q n more
  laid_as p m laid q n more e f g =
      subst (λ z. AreLaid p m laid z n more) (sym e)
      (subst (λ z. AreLaid p m laid p z more) (sym f) (subst (AreLaid p m laid p m) (sym g) (laid_none p m laid)))

  pub laid_twice : (p : Placement) (m : Rings) (laid : List (LaidRing A)) (q : Placement) (n : Rings) (more : List (LaidRing A))
      (r : Placement) (o : Rings) (most : List (LaidRing A)) → AreLaid p m laid q n more → AreLaid q n more r o most
      → AreLaid p m laid r o most
  laid_twice p m laid q n more r o most a b = record {
    there = λ t. b.there (a.there t);
    added = λ first t x. b.added first (a.there t) (a.added first t x);
    kept = λ k x e. b.kept k x (a.kept k x e);
    stands = λ s k. b.stands s (a.stands s k);
    still = λ s k. b.still s (a.stands s k) ∙ a.still s k;
  }

  module _ (p q : Placement) (m n : Rings) (h i : SegmentSet) (laid came more : List (LaidRing A)) (stands : Stands p m h)
      (stands' : Stands q n i) (came_there : AreThere n came) (added : AreAdded m n (numbers_of came)) (kept : KeepsPlaces p q)
      (is : more ≡ laid ++ came) where
    row : numbers_of more ≡ numbers_of laid ++ numbers_of came
    row = ap numbers_of is ∙ map-append (λ (l : LaidRing A). l.number) laid came

    more_there : AreThere m laid → AreThere n more
    more_there t =
        let still = there_still m n laid t added.kept in
        record {
          along =
              ap (map (λ (l : LaidRing A). table.get n l.number)) is
              ∙ map-append (λ (l : LaidRing A). table.get n l.number) laid came
              ∙ ap₂ (λ y z. y ++ z) still.along came_there.along
              ∙ sym (map-append (λ (l : LaidRing A). Some (edges l.keys.items)) laid came)
              ∙ sym (ap (map (λ (l : LaidRing A). Some (edges l.keys.items))) is);
          different =
              ap are_distinct row
              ∙ distinct-append (numbers_of laid) (numbers_of came) t.different came_there.different (λ r k l.
              false≢true (sym (ap is_some (added.free r (in_contains (numbers_of came) r l))) ∙ number_there m laid t r k));
        }

    held : (r : ℕ) → IsTrue (table.contains_key m r) → table.get n r ≡ table.get m r
    held r k = let o = there (table.get m r) k in added.kept r o.0 o.1 ∙ sym o.1

    pub laid_more : AreLaid p m laid q n more
    laid_more = record {
      there = more_there;
      added = λ first t a.
          subst (AreAdded first n) (sym row)
          (added_twice first m n (numbers_of laid) (numbers_of came) a added (number_there m laid t));
      kept = kept;
      stands = λ r k. ap is_some (held r k) ∙ k;
      still = λ r k. ring_at-stays p q q m n h i stands stands' kept (λ x z e. e) r k (held r k);
    }

  -- where none had been laid before
  pub laid_there : (p : Placement) (m : Rings) (q : Placement) (n : Rings) (more : List (LaidRing A))
      → AreLaid p m [] q n more → AreThere n more
  laid_there p m q n more a = a.there (there_none {A = A} m [] refl)

  pub laid_added : (p : Placement) (m : Rings) (q : Placement) (n : Rings) (more : List (LaidRing A))
      → AreLaid p m [] q n more → AreAdded m n (numbers_of more)
  laid_added p m q n more a = a.added m (there_none {A = A} m [] refl) (added_first {A = A} m [] refl)
