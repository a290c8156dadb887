-- Rings that are laid one after the other.
use Rattle.kit_words.proofs.Common.{◌≡◌, ◌≢◌, ℕ, true, refl, sym, ap, ap₂, ◌∙◌, subst, List, [], ◌∷◌, ◌++◌, map, ◌⊎◌}
use Rattle.kit_words.proofs.Common.{inl, inr, Some, None, is_some, drop, get_or, arith, Contains, IsTrue, Option}
use Rattle.kit_words.proofs.Common.{unwrap_or, map_push, Contains-append_left, Contains-push, Contains-push_cases}
use Rattle.std.specs.FinMap as table
use Rattle.grid_geometry.specs.Common.{Position}
use Rattle.ring_machine.specs.Common.{are_distinct}
use Rattle.ring_machine.proofs.Common.{In, in_mapped, map_there}
use Rattle.vertex_index.specs.Common.{Placement, place}
use Rattle.segment_index.specs.Common.{SegmentSet}
use Rattle.arc_tables.specs.Common.{Edge, Rings, edges, begins}
use Rattle.ring_store.proofs.Common.{distinct_more, ring_here, ring_other, begins_edges, place_is, kept_place, IsKept}
use Rattle.feature_exchange.specs.Common.{numbers_of, AreThere, AreAdded, AreGone, KeepsPlaces, LaidRing}
use Rattle.ring_store.specs.Common.{keyed_ring, Stands}
use Rattle.feature_exchange.proofs.Exchanged.{same_places, same_segments}
use Rattle.feature_exchange.proofs.Numbered.{contained_or, came_and_went}
use Rattle.feature_exchange.proofs.Visited.{visited_at, none_some, ring_kept}

-- ---- lists

head_same : {Y : Type 0} (y z : Y) (ys zs : List Y) → y ∷ ys ≡ z ∷ zs → y ≡ z
head_same y z ys zs e = ap (λ w. get_or w 0 y) e

tail_same : {Y : Type 0} (y z : Y) (ys zs : List Y) → y ∷ ys ≡ z ∷ zs → ys ≡ zs
tail_same y z ys zs e = ap (drop 1) e

agree_in : {X Y : Type 0} (f g : X → Y) (xs : List X) → map f xs ≡ map g xs → (x : X) → In x xs → f x ≡ g x
agree_in f g [] e x i = absurd i
agree_in f g (y ∷ ys) e x (inl s) = ap f (sym s) ∙ head_same (f y) (g y) (map f ys) (map g ys) e ∙ ap g s
agree_in f g (y ∷ ys) e x (inr i) = agree_in f g ys (tail_same (f y) (g y) (map f ys) (map g ys) e) x i

module _ {A : Type 0} where
  abbrev under : Rings → LaidRing A → Option (List Edge)
  under m y = table.get m y.number

  abbrev along : LaidRing A → Option (List Edge)
  along y = Some (edges y.keys.items)

  number_in : (laid : List (LaidRing A)) (r : ℕ) → In r (numbers_of laid) → (y : LaidRing A) × In y laid × (y.number ≡ r)
  number_in laid r i = in_mapped (λ (y : LaidRing A). y.number) r laid i

  pub there_none : (m : Rings) (laid : List (LaidRing A)) → laid ≡ [] → AreThere m laid
  there_none m laid e = subst (AreThere m) (sym e) (record { along = refl; different = refl })

  pub added_first : (m : Rings) (laid : List (LaidRing A)) → laid ≡ [] → AreAdded m m (numbers_of laid)
  added_first m laid e = subst (λ z. AreAdded m m (numbers_of z)) (sym e) (record {
    free = λ r c. absurd (omega (arith, c.1));
    different = refl;
    kept = λ r es h. h;
    others = λ r f. refl;
  })

  -- one ring more
  module _ (old m m' : Rings) (laid laid' : List (LaidRing A)) (x : LaidRing A) (pushed : laid' ≡ laid ++ x ∷ [])
      (t : AreThere m laid) (free : table.get m x.number ≡ None) (put : m' ≡ table.insert m x.number (edges x.keys.items)) where
    numbers_more : numbers_of laid' ≡ numbers_of laid ++ x.number ∷ []
    numbers_more = ap numbers_of pushed ∙ map_push (λ (y : LaidRing A). y.number) laid x

    other : (r : ℕ) → In r (numbers_of laid) → r ≢ x.number
    other r i s =
        let y = number_in laid r i in
        none_some (table.get m x.number) (edges y.0.keys.items) free
        (ap (table.get m) (sym s ∙ sym y.2) ∙ agree_in (under m) along laid t.along y.0 y.1)

    new_there : table.get m' x.number ≡ Some (edges x.keys.items)
    new_there = ap (λ z. table.get z x.number) put ∙ ring_here m x.number (edges x.keys.items)

    different_more : are_distinct (numbers_of laid') ≡ true
    different_more = ap are_distinct numbers_more ∙ distinct_more (numbers_of laid) x.number other t.different

    pub there_more : AreThere m' laid'
    there_more = record {
      along =
          ap (map (under m')) pushed ∙ map_push (under m') laid x
          ∙ ap₂ (λ y z. y ++ z ∷ []) (map_there (under m') along laid (λ y i. ap (λ z. table.get z y.number) put ∙ ring_kept m x.number (edges x.keys.items) free y.number (edges y.keys.items) (agree_in (under m) along laid t.along y i))) new_there
          ∙ sym (ap (map along) pushed ∙ map_push along laid x);
      different = different_more;
    }

    pub added_more : AreAdded old m (numbers_of laid) → AreAdded old m' (numbers_of laid')
    added_more a = subst (AreAdded old m') (sym numbers_more) (record {
      free = λ r c. elim (Contains-push_cases (numbers_of laid) x.number r c) [
        | inl d ↦ a.free r d
        | inr s ↦ subst (λ z. table.get old z ≡ None) s (new_free (contained_or x.number (numbers_of laid)))
      ];
      different = ap are_distinct (sym numbers_more) ∙ different_more;
      kept = λ r es e. ap (λ z. table.get z r) put ∙ ring_kept m x.number (edges x.keys.items) free r es (a.kept r es e);
      others = λ r f.
          ap (λ z. table.get z r) put
          ∙ ring_other m x.number (edges x.keys.items) r (λ s. f (subst (Contains (numbers_of laid ++ x.number ∷ [])) (sym s) (Contains-push (numbers_of laid) x.number)))
          ∙ a.others r (λ c. f (Contains-append_left (numbers_of laid) (x.number ∷ []) r c));
    })
      where
        new_free : Contains (numbers_of laid) x.number ⊎ ¬ (Contains (numbers_of laid) x.number) → table.get old x.number ≡ None
        new_free (inl c) = a.free x.number c
        new_free (inr f) = sym (a.others x.number f) ∙ free

  -- each number has a ring
  pub number_there : (m : Rings) (laid : List (LaidRing A)) → AreThere m laid → (r : ℕ) → In r (numbers_of laid)
      → IsTrue (table.contains_key m r)
  number_there m laid t r i =
      let y = number_in laid r i in
      ap is_some (ap (table.get m) (sym y.2) ∙ agree_in (under m) along laid t.along y.0 y.1)

  -- they are there still when more come
  pub there_still : (m m' : Rings) (laid : List (LaidRing A)) → AreThere m laid
      → ((r : ℕ) (es : List Edge) → table.get m r ≡ Some es → table.get m' r ≡ Some es) → AreThere m' laid
  there_still m m' laid t kept = record {
    along = map_there (under m') along laid (λ y i. kept y.number (edges y.keys.items) (agree_in (under m) along laid t.along y i));
    different = t.different;
  }

  -- ---- positions

  abbrev positions : Placement → LaidRing A → List Position
  positions p y = map (place p) y.keys.items

  pub at_more : (p p' : Placement) (m : Rings) (h : SegmentSet) → Stands p m h → KeepsPlaces p p'
      → (laid laid' : List (LaidRing A)) (x : LaidRing A) → laid' ≡ laid ++ x ∷ [] → AreThere m laid
      → (ps ps' : List (List Position)) (q : List Position) → ps' ≡ ps ++ q ∷ [] → map (positions p) laid ≡ ps
      → positions p' x ≡ q → map (positions p') laid' ≡ ps'
  at_more p p' m h s kept laid laid' x pushed t ps ps' q more at here =
      ap (map (positions p')) pushed ∙ map_push (positions p') laid x
      ∙ ap₂ (λ y z. y ++ z ∷ []) (map_there (positions p') (positions p) laid same ∙ at) here ∙ sym more
    where
      same : (y : LaidRing A) → In y laid → positions p' y ≡ positions p y
      same y i = map_there (place p') (place p) y.keys.items (λ k j.
          let there = agree_in (under m) along laid t.along y i in
          let in_p : IsKept p k = s.placed k (visited_at m y.number (edges y.keys.items) there k (subst (In k) (sym (begins_edges y.keys.items)) j)) in
          place_is p' k (place p k) (kept k (place p k) (kept_place p k in_p)))

  -- the rings under their numbers
  pub rings_at : (p : Placement) (m : Rings) (laid : List (LaidRing A)) → AreThere m laid
      → map (keyed_ring p m) (numbers_of laid) ≡ map (positions p) laid
  rings_at p m laid t = by laid (λ y i. agree_in (under m) along laid t.along y i)
    where
      by : (ls : List (LaidRing A)) → ((y : LaidRing A) → In y ls → under m y ≡ along y)
          → map (keyed_ring p m) (numbers_of ls) ≡ map (positions p) ls
      by [] h = refl
      by (y ∷ ls) h =
          ap₂ (λ z w. z ∷ w)
          (ap (λ o. map (place p) (begins (unwrap_or o []))) (h y (inl refl)) ∙ ap (map (place p)) (begins_edges y.keys.items))
          (by ls (λ z i. h z (inr i)))

-- rings that came and went: the tables are as they were
pub back_again : (p q r : Placement) (m now m' : Rings) (h i : SegmentSet) (numbers numbers' : List ℕ) → Stands p m h
    → Stands r m' i → AreAdded m now numbers → numbers' ≡ numbers → AreGone now m' numbers' → KeepsPlaces p q
    → KeepsPlaces r q → (m' ≡ m) × (r ≡ p) × (i ≡ h)
back_again p q r m now m' h i numbers numbers' s t a n g kept left =
    let rings = came_and_went m now m' numbers a (subst (AreGone now m') n g) in
    let stands : Stands r m i = subst (λ z. Stands r z i) rings t in
    let places = same_places p q r m h i s stands kept left in
    (rings, places, same_segments p r m h i places s stands)
