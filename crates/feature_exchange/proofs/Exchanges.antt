-- Rings that came into the tables of a map, and rings that went: what is kept then.
use Rattle.kit_words.proofs.Common.{◌≡◌, ◌≤◌, ◌↔◌, ℕ, true, refl, sym, ap, ◌∙◌, List, [], ◌∷◌, map, inl, inr, is_some}
use Rattle.kit_words.proofs.Common.{Contains, IsTrue, false≢true}
use Rattle.std.specs.FinMap as table
use Rattle.grid_geometry.specs.Common.{Position}
use Rattle.ring_machine.specs.Common.{rings, size, Proper, canonical, WellFormed}
use Rattle.ring_machine.proofs.Common.{In, contains_in, in_contains, map_there}
use Rattle.topo_outline.specs.Common.{KeepsTexts}
use Rattle.segment_index.specs.Common.{SegmentSet}
use Rattle.feature_exchange.proofs.Staying.{ring_at-stays}
use Rattle.feature_exchange.specs.Common.{AreAdded, AreGone, KeepsPlaces, Holds, Stored, ring_under, stored_document}
use Rattle.ring_store.specs.Common.{keyed_ring, Stands}
use Rattle.feature_exchange.proofs.Numbered.{contained_or}
use Rattle.feature_exchange.proofs.Changes.{Changes}
use Rattle.feature_exchange.proofs.Whole.{tables_stand, map_holds}

-- rings were laid into the tables of a map, with these numbers, and then others were taken out
pub record Exchanged (old mid new : Stored) (h i j : SegmentSet) (came gone : List ℕ) : Type 0 where
  pub holds : Holds old h
  pub laid : Stands mid.places mid.rings i
  pub added : AreAdded old.rings mid.rings came
  pub there : (r : ℕ) → In r came → IsTrue (table.contains_key mid.rings r)
  pub kept : KeepsPlaces old.places mid.places
  pub stands : Stands new.places new.rings j
  pub went : AreGone mid.rings new.rings gone
  pub left : KeepsPlaces new.places mid.places

mapped_twice : {X Y Z : Type 0} (f : X → Y) (g : Y → Z) (xs : List X) → map (λ x. g (f x)) xs ≡ map g (map f xs)
mapped_twice f g [] = refl
mapped_twice f g (x ∷ xs) = ap (λ z. g (f x) ∷ z) (mapped_twice f g xs)

module _ (old mid new : Stored) (h i j : SegmentSet) (came gone : List ℕ)
    (e : Exchanged old mid new h i j came gone) where
  -- a ring of the old frame has its edges
  pub old_there : (r : ℕ) → In r (rings old.frame) → IsTrue (table.contains_key old.rings r)
  old_there r k = (e.holds.whole.named r).0 (in_contains (rings old.frame) r k)

  -- what came has new numbers
  pub came_new : (r : ℕ) → In r came → In r (rings old.frame) → ⊥
  came_new r k l =
      false≢true (sym (ap is_some (e.added.free r (in_contains came r k))) ∙ old_there r l)

  -- ---- rings that stay, and rings that came

  old_held : (r : ℕ) → In r (rings old.frame) → (In r gone → ⊥) → table.get new.rings r ≡ table.get old.rings r
  old_held r k f =
      e.went.others r (λ c. f (contains_in gone r c))
      ∙ e.added.others r (λ c. came_new r (contains_in came r c) k)

  pub ring_stays : (r : ℕ) → In r (rings old.frame) → (In r gone → ⊥) → ring_under new r ≡ ring_under old r
  ring_stays r k f =
      ap canonical
      (ring_at-stays old.places mid.places new.places old.rings new.rings h j (tables_stand old h e.holds) e.stands e.kept e.left r (old_there r k) (old_held r k f))

  module _ (was : (r : ℕ) → In r gone → In r (rings old.frame)) where
    came_held : (r : ℕ) → In r came → table.get new.rings r ≡ table.get mid.rings r
    came_held r k = e.went.others r (λ c. came_new r k (was r (contains_in gone r c)))

    -- rings that came are as they were laid
    pub rings_came : (rs : List ℕ) → ((r : ℕ) → In r rs → In r came) → (laid : List (List Position))
        → map (keyed_ring mid.places mid.rings) rs ≡ laid → map (ring_under new) rs ≡ map canonical laid
    rings_came rs among laid at =
        mapped_twice (keyed_ring new.places new.rings) canonical rs
        ∙ ap (map canonical)
        (map_there (keyed_ring new.places new.rings) (keyed_ring mid.places mid.rings) rs (λ r k.
        ring_at-stays mid.places mid.places new.places mid.rings new.rings i j e.laid e.stands (λ x p q. q) e.left r (e.there r (among r k)) (came_held r (among r k)))
        ∙ at)

  -- ---- the map is kept

  module _ (changes : Changes (rings old.frame) (rings new.frame) gone came) where
    named : (r : ℕ) → Contains (rings new.frame) r ↔ IsTrue (is_some (table.get new.rings r))
    named r = (
      λ c. elim (changes.from r (contains_in (rings new.frame) r c)) [
        | inl k ↦ ap is_some (old_held r k.0 k.1) ∙ old_there r k.0
        | inr k ↦ ap is_some (came_held changes.was r k) ∙ e.there r k
      ],
      λ c. in_contains (rings new.frame) r (elim (contained_or r gone) [
        | inl k ↦ absurd (false≢true (sym (ap is_some (e.went.gone r k)) ∙ c))
        | inr f ↦ elim (contained_or r came) [
          | inl k ↦ changes.comes r (contains_in came r k)
          | inr g ↦
              let held : is_some (table.get old.rings r) ≡ true = sym (ap is_some (e.went.others r f ∙ e.added.others r g)) ∙ c in
              changes.stays r (contains_in (rings old.frame) r ((e.holds.whole.named r).1 held)) (λ k. f (in_contains gone r k))
        ]
      ]),
    )

    pub exchanged_holds : WellFormed new.frame → KeepsTexts new.frame → Proper (stored_document new)
        → size (stored_document new) ≤ 4000000 → Holds new j
    exchanged_holds = map_holds new j e.stands named changes.once
