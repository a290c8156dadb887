-- Where the map opens, the lists in which nothing is found are all findings.
use Rattle.kit_words.proofs.Common.{◌≡◌, ◌≤◌, ℕ, true, false, refl, sym, ap, ap₂, ◌∙◌, subst, List, [], ◌∷◌, ◌++◌, map}
use Rattle.kit_words.proofs.Common.{length, inl, inr, ◌⊎◌, ◌&&◌, ◌||◌, None, arith, nat_le, nat_lt, filter, flat_map, list_all}
use Rattle.kit_words.proofs.Common.{false≢true, nat_tests, and_parts, or_right, by_bool, IsStrictlySortedBy, Contains}
use Rattle.grid_geometry.specs.Common.{conflict, cross, is_within, Position, Segment, segment_lt}
use Rattle.grid_geometry.proofs.Common.{conflict-comm, conflict-same}
use Rattle.ring_machine.specs.Common.{least_conflict, is_distinct, segments, pair_lt}
use Rattle.ring_machine.proofs.Common.{In, least_conflict_is, Bad, IsLeast, contains_in, in_contains, in_mapped, in_flat}
use Rattle.ring_machine.proofs.Common.{in-map, in-flat_map, in-filter, all_in, segment_ordered}
use Rattle.walk_faults.specs.declared.findings.Findings.{Findings}
use Rattle.walk_faults.specs.declared.findings.Touch.{Touch}
use Rattle.walk_faults.specs.declared.findings.Crossing.{Crossing}
use Rattle.walk_faults.specs.Common.{Placed, walks_of, is_short_walk, short_walks, repeated, repeat_at}
use Rattle.walk_faults.specs.Common.{all_repeats, all_positions, segments_of_walks, walk_segments, IsTouch, IsCrossing}
use Rattle.walk_faults.specs.Common.{Found, is_closed_ring, all_walks, Opens, IsNothing, ListsAll, touch_cmp, crossing_cmp}
use Rattle.walk_faults.proofs.Neighbours.{in_repeated}
use Rattle.walk_faults.proofs.Opening.{distinct_once, walks_are}
use Rattle.walk_faults.proofs.RingEdges.{ring_segments, vertex_side}

-- ---- empty lists

none_if : {X : Type 0} (xs : List X) → ((x : X) → In x xs → ⊥) → xs ≡ []
none_if [] h = refl
none_if (x ∷ xs) h = absurd (h x (inl refl))

not_short : (n : ℕ) → nat_le 3 n ≡ true → nat_lt n 3 ≡ true → ⊥
not_short n h k = grind (arith, nat_tests)

no_short : (walks : List Placed) → ((w : Placed) → In w walks → is_closed_ring w.1 ≡ true) → short_walks walks ≡ []
no_short walks rings = none_if (short_walks walks) (λ r i.
    let w = in_mapped (λ (v : Placed). v.0) r (filter (λ v. is_short_walk v.1) walks) i in
    let k = in-filter (λ v. is_short_walk v.1) w.0 walks w.1 in
    not_short (length (w.0).1) (and_parts (nat_le 3 (length (w.0).1)) (is_distinct (w.0).1) (rings w.0 k.0)).0 k.1)

no_repeats : (walks : List Placed) → ((w : Placed) → In w walks → is_closed_ring w.1 ≡ true) → all_repeats walks ≡ []
no_repeats walks rings = none_if (all_repeats walks) (λ r i.
    let w = in_flat (λ v. map (repeat_at v.0) (repeated v.1)) r walks i in
    let p = in_mapped (repeat_at (w.0).0) r (repeated (w.0).1) w.2 in
    distinct_once (w.0).1 (and_parts (nat_le 3 (length (w.0).1)) (is_distinct (w.0).1) (rings w.0 w.1)).1 p.0 (in_repeated (w.0).1 p.0 p.1))

-- ---- segments

-- the segments of rings
ring_sides : (walks : List Placed) → ((w : Placed) → In w walks → is_closed_ring w.1 ≡ true)
    → segments_of_walks walks ≡ flat_map segments (map (λ w. w.1) walks)
ring_sides [] rings = refl
ring_sides (w ∷ walks) rings = ap₂ (λ y z. y ++ z) (ring_segments w.1 (rings w (inl refl))) (ring_sides walks (λ v i. rings v (inr i)))

-- a vertex of rings is an end of a segment
side_at : (walks : List Placed) → ((w : Placed) → In w walks → is_closed_ring w.1 ≡ true) → (p : Position) → In p (all_positions walks)
    → (s : Segment) × In s (segments_of_walks walks) × ((s.lo ≡ p) ⊎ (s.hi ≡ p))
side_at walks rings p i =
    let w = in_flat (λ v. v.1) p walks i in
    let s = vertex_side (w.0).1 (rings w.0 w.1) p w.2 in
    (s.0, in-flat_map (λ v. walk_segments v.1) w.0 s.0 walks w.1 s.1, s.2)

abbrev BadIn : List Segment → Segment × Segment → Type 0
BadIn ss u = Bad segment_lt conflict conflict-comm (λ s. In s ss) u

none_bad : (ss : List Segment) → least_conflict ss ≡ None → (u : Segment × Segment) → BadIn ss u → ⊥
none_bad ss e u b =
    let first : IsLeast pair_lt (BadIn ss) None = subst (IsLeast pair_lt (BadIn ss)) e (least_conflict_is ss) in
    first u b

-- two segments in conflict are a bad pair in one of the two orders
conflict_bad : (ss : List Segment) (s t : Segment) → In s ss → In t ss → conflict s t ≡ true → (u : Segment × Segment) × BadIn ss u
conflict_bad ss s t i j m =
    by_bool (segment_lt s t)
    (λ e. ((s, t), record { order = e; left = i; right = j; meet = m }))
    (λ e. by_bool (segment_lt t s)
    (λ f. ((t, s), record { order = f; left = j; right = i; meet = conflict-comm t s ∙ m }))
    (λ f. absurd (false≢true (sym (conflict-same s) ∙ ap (conflict s) (segment_ordered.total s t e f) ∙ m))))

cross_conflict : (s t : Segment) → cross s t ≡ true → conflict s t ≡ true
unfolding conflict
cross_conflict s t h = ap (λ b. b || ((is_within s.lo t || is_within s.hi t) || (is_within t.lo s || is_within t.hi s))) h

lo_conflict : (s t : Segment) → is_within s.lo t ≡ true → conflict s t ≡ true
unfolding conflict
lo_conflict s t h = or_right (cross s t) _ (ap (λ b. (b || is_within s.hi t) || (is_within t.lo s || is_within t.hi s)) h)

hi_conflict : (s t : Segment) → is_within s.hi t ≡ true → conflict s t ≡ true
unfolding conflict
hi_conflict s t h =
    or_right (cross s t) _ (ap (λ b. b || (is_within t.lo s || is_within t.hi s)) (or_right (is_within s.lo t) (is_within s.hi t) h))

no_touch : (walks : List Placed) → ((w : Placed) → In w walks → is_closed_ring w.1 ≡ true) → least_conflict (segments_of_walks walks) ≡ None
    → (t : Touch) → IsTouch walks t → ⊥
no_touch walks rings apart t k =
    let ss = segments_of_walks walks in
    let s = side_at walks rings t.pos (contains_in (all_positions walks) t.pos k.vertex) in
    let meets : conflict s.0 t.segment ≡ true = elim s.2 [
      | inl e ↦ lo_conflict s.0 t.segment (ap (λ p. is_within p t.segment) e ∙ k.within)
      | inr e ↦ hi_conflict s.0 t.segment (ap (λ p. is_within p t.segment) e ∙ k.within)
    ] in
    let u = conflict_bad ss s.0 t.segment s.1 (contains_in ss t.segment k.side) meets in
    none_bad ss apart u.0 u.1

no_crossing : (walks : List Placed) → least_conflict (segments_of_walks walks) ≡ None → (c : Crossing) → IsCrossing walks c → ⊥
no_crossing walks apart c k =
    let ss = segments_of_walks walks in
    none_bad ss apart (c.first, c.second) (record {
      order = k.lesser;
      left = contains_in ss c.first k.one;
      right = contains_in ss c.second k.other;
      meet = cross_conflict c.first c.second k.crosses;
    })

-- ---- the law

no_list : {X : Type 0} (x : X) → Contains [] x → ⊥
no_list x h = contains_in [] x h

pub found_nothing : {A : Type 0} (features : List (List (List (List Position)))) (findings : Findings A) → IsNothing findings → Opens features
    → Found features findings
unfolding IsStrictlySortedBy
found_nothing features findings n o = record {
  short = n.short ∙ sym (no_short walks rings);
  repeats = n.repeats ∙ sym (no_repeats walks rings);
  touches = subst (ListsAll touch_cmp (IsTouch walks)) (sym n.touches) (record {
    ascending = tt;
    all = λ t. (λ h. absurd (no_list t h), λ k. absurd (no_touch walks rings apart t k));
  });
  crossings = subst (ListsAll crossing_cmp (IsCrossing walks)) (sym n.crossings) (record {
    ascending = tt;
    all = λ c. (λ h. absurd (no_list c h), λ k. absurd (no_crossing walks apart c k));
  });
}
  where
    walks : List Placed
    walks = walks_of features

    rings : (w : Placed) → In w walks → is_closed_ring w.1 ≡ true
    rings w i =
        all_in is_closed_ring (map (λ w. w.1) walks) w.1 (ap (list_all is_closed_ring) (walks_are features) ∙ o.are_rings) (in-map (λ (v : Placed). v.1) w walks i)

    apart : least_conflict (segments_of_walks walks) ≡ None
    apart = ap least_conflict (ring_sides walks rings) ∙ ap (λ z. least_conflict (flat_map segments z)) (walks_are features) ∙ o.apart
