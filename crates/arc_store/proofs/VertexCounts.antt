-- The vertices of a kept map are the positions of its keys, and as many.
use Rattle.kit_words.proofs.Common.{◌≡◌, ℕ, Bool, true, false, refl, sym, ap, ap₂, ◌∙◌, subst, List, [], ◌∷◌, map}
use Rattle.kit_words.proofs.Common.{length, ◌||◌, ◌&&◌, arith, Some, ◌==◌, not, T, list_any, fold, AllByRecursion, inl, inr}
use Rattle.kit_words.proofs.Common.{IsDistinct, nat_cmp, is_lt, is_eq, eq_by_cmp, Ordering, Less, Equal}
use Rattle.kit_words.proofs.Common.{eq_by_cmp_equiv, below_all, false≢true, nat_tests, length-map}
use Rattle.kit_words.proofs.Common.{length-from_same_keys, and_parts, or_parts, not-true}
use Rattle.std.specs.FinMap as table
use Rattle.grid_geometry.specs.Common.{Position, position_cmp, position_eq, position_lt}
use Rattle.ring_machine.specs.Common.{rings, positions, is_vertex, add_position, vertices, has, is_distinct}
use Rattle.ring_machine.specs.Common.{are_distinct}
use Rattle.ring_machine.proofs.Common.{In, any_in, in_any, in_mapped, in_flat, same_answer, in-map, in-flat_map, has-in}
use Rattle.ring_machine.proofs.Common.{in-has, Rising, position_total, ties, same_rising, all_rise, in_all, contains_in}
use Rattle.ring_machine.proofs.Common.{in_contains}
use Rattle.ring_machine.proofs.SortedOnce.{all_in}
use Rattle.vertex_index.specs.Common.{place, ArePlaces}
use Rattle.ring_store.proofs.Common.{has_key, kept_place, place_is, place_kept, distinct_places, IsKept, first_of_two}
use Rattle.ring_store.proofs.Common.{second_of_two}
use Rattle.feature_exchange.specs.Common.{IsWhole, Stored, stored_document}
use Rattle.feature_exchange.proofs.Common.{key_vertex, vertex_key}

-- ---- positions, each once

-- positions of a document, ascending and each once, rise, and are the same positions
vertices_rise : (ps : List Position) → Rising (fold add_position [] ps)
vertices_rise ps = all_rise ps [] tt

in_vertices : (ps : List Position) (p : Position) → In p ps → In p (fold add_position [] ps)
in_vertices ps p i = all_in ps [] p (inr i)

of_vertices : (ps : List Position) (p : Position) → In p (fold add_position [] ps) → In p ps
of_vertices ps p i = elim (in_all ps [] p i) [ inl j ↦ absurd j | inr j ↦ j ]

-- the order of positions as a test of equality
abbrev same : Position → Position → Bool
same = eq_by_cmp position_cmp

differ_lesser : (o : Ordering) → is_lt o ≡ true → is_eq o ≡ false
differ_lesser Equal e = absurd (false≢true e)
differ_lesser _ e = refl

rising_once : (ps : List Position) → Rising ps → IsDistinct same ps
unfolding IsDistinct
rising_once [] h = tt
rising_once (p ∷ ps) h = (apart ps h.0, rising_once ps h.1)
  where
    apart : (qs : List Position) → AllByRecursion (λ q. position_lt p q ≡ true) qs
        → AllByRecursion (λ q. same p q ≡ false) qs
    apart [] k = tt
    apart (q ∷ qs) k = (differ_lesser (position_cmp p q) k.0, apart qs k.1)

distinct_once : (ps : List Position) → is_distinct ps ≡ true → IsDistinct same ps
unfolding IsDistinct
distinct_once [] h = tt
distinct_once (p ∷ ps) h =
    let h' = and_parts (not (has ps p)) (is_distinct ps) h in
    (apart ps (not-true (has ps p) h'.0), distinct_once ps h'.1)
  where
    apart : (qs : List Position) → has qs p ≡ false → AllByRecursion (λ q. same p q ≡ false) qs
    apart [] k = tt
    apart (q ∷ qs) k =
        let k' = or_parts (position_eq p q) (has qs p) k in
        (sym (ties p q) ∙ k'.0, apart qs k'.1)

-- two lists of the same positions, each once, are as long
once_long : (ps qs : List Position) → IsDistinct same ps → IsDistinct same qs
    → ((p : Position) → In p ps → In p qs) → ((p : Position) → In p qs → In p ps)
    → length ps ≡ length qs
once_long ps qs d e f g =
    length-from_same_keys (eq_by_cmp_equiv position_total) ps qs d e (λ p. same_answer _ _ (over ps qs f p) (over qs ps g p))
  where
    over : (xs ys : List Position) → ((p : Position) → In p xs → In p ys) → (p : Position)
        → list_any (same p) xs ≡ true → list_any (same p) ys ≡ true
    over xs ys k p h =
        let a = any_in (same p) xs h in
        in_any (same p) a.0 ys (k a.0 a.1) a.2

-- ---- the keys

same_key : (k : ℕ) → eq_by_cmp nat_cmp k k ≡ true
same_key k = grind (arith, nat_tests)

one_key : (j k : ℕ) → eq_by_cmp nat_cmp j k ≡ true → j ≡ k
one_key j k h = grind (arith, nat_tests)

module _ {X : Type 0} where
  -- no entry has a lesser key
  none_below : (k : ℕ) (es : List (ℕ × X)) → T (below_all nat_cmp k es)
      → has_key k (map (λ e. e.0) es) ≡ false
  none_below k [] h = refl
  none_below k (e ∷ es) h =
      ap₂ (λ y z. y || z) (above (nat_cmp k e.0) refl (first_of_two (is_lt (nat_cmp k e.0)) (below_all nat_cmp k es) h)) (none_below k es (second_of_two (is_lt (nat_cmp k e.0)) (below_all nat_cmp k es) h))
    where
      above : (o : Ordering) → nat_cmp k e.0 ≡ o → T (is_lt o) → (e.0 == k) ≡ false
      above Less m t = grind (arith, nat_tests)
      above _ m t = absurd t

  -- keys that rise are distinct
  sorted_keys : (es : List (ℕ × X)) → T (table.is_sorted nat_cmp es)
      → are_distinct (map (λ e. e.0) es) ≡ true
  sorted_keys [] h = refl
  sorted_keys (e ∷ es) h =
      ap₂ (λ y z. not y && z) (none_below e.0 es (first_of_two (below_all nat_cmp e.0 es) (table.is_sorted nat_cmp es) h)) (sorted_keys es (second_of_two (below_all nat_cmp e.0 es) (table.is_sorted nat_cmp es) h))

module _ (s : Stored) (w : IsWhole s) where
  key_kept : (k : ℕ) → In k (table.keys s.places) → IsKept s.places k
  key_kept k i =
      table.contains_key-keys s.places k ∙ in_any (eq_by_cmp nat_cmp k) k (table.keys s.places) i (same_key k)

  kept_key : (k : ℕ) → IsKept s.places k → In k (table.keys s.places)
  kept_key k h =
      let j = any_in (eq_by_cmp nat_cmp k) (table.keys s.places) (sym (table.contains_key-keys s.places k) ∙ h) in
      subst (λ z. In z (table.keys s.places)) (sym (one_key k j.0 j.2)) j.1

  position_vertex : (p : Position) → In p (positions (stored_document s)) → is_vertex (stored_document s) p ≡ true
  position_vertex p i =
      let u = in_flat (λ ring. ring) p (rings (stored_document s)) i in
      in_any (λ ring. has ring p) u.0 (rings (stored_document s)) u.1 (in-has p u.0 u.2)

  vertex_position : (p : Position) → is_vertex (stored_document s) p ≡ true → In p (positions (stored_document s))
  vertex_position p h =
      let u = any_in (λ ring. has ring p) (rings (stored_document s)) h in
      in-flat_map (λ ring. ring) u.0 p (rings (stored_document s)) u.1 (has-in p u.0 u.2)

  -- as many vertices as keys
  pub vertices_counted : table.len s.places ≡ length (vertices (stored_document s))
  vertices_counted =
      let ks = table.keys s.places in
      let qs = positions (stored_document s) in
      table.len-entries s.places
      ∙ sym (length-map (table.entries s.places) (λ e. e.0))
      ∙ sym (length-map ks (place s.places))
      ∙ once_long (map (place s.places) ks) (fold add_position [] qs)
      (distinct_once (map (place s.places) ks) (distinct_places s.places w.distinct ks key_kept (sorted_keys (table.entries s.places) (table.entries_sorted s.places))))
      (rising_once (fold add_position [] qs) (vertices_rise qs))
      (λ p i.
      let k = in_mapped (place s.places) p ks i in
      in_vertices qs p (vertex_position p (key_vertex s w k.0 p (kept_place s.places k.0 (key_kept k.0 k.1) ∙ ap Some k.2))))
      (λ p i.
      let k = vertex_key s w p (position_vertex p (of_vertices qs p i)) in
      subst (λ z. In z (map (place s.places) ks)) (place_is s.places k.0 p k.1) (in-map (place s.places) k.0 ks (kept_key k.0 (place_kept s.places k.0 p k.1))))

  -- the positions of all keys, ascending and each once, are the vertices
  pub vertices_listed : (ps sorted : List Position) → ArePlaces s.places ps → sorted ≡ fold add_position [] ps
      → sorted ≡ vertices (stored_document s)
  vertices_listed ps sorted places is =
      let qs = positions (stored_document s) in
      is
      ∙ same_rising (fold add_position [] ps) (fold add_position [] qs) (vertices_rise ps) (vertices_rise qs)
      (λ p i.
      let k = (places p).0 (in_contains ps p (of_vertices ps p i)) in
      in_vertices qs p (vertex_position p (key_vertex s w k.0 p k.1)))
      (λ p i.
      in_vertices ps p (contains_in ps p ((places p).1 (vertex_key s w p (position_vertex p (of_vertices qs p i))))))
