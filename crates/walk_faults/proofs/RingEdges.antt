-- The edges of a walk, and of one that is a ring.
use Rattle.kit_words.proofs.Common.{◌≡◌, ◌≤◌, ℕ, Bool, true, false, refl, sym, ap₂, ◌∙◌, subst, cond, List, [], ◌∷◌}
use Rattle.kit_words.proofs.Common.{◌++◌, map, length, inl, inr, ◌⊎◌, arith, not, nat_le, flat_map, is_gt, nat_tests}
use Rattle.kit_words.proofs.Common.{and_parts, or_parts, not-true}
use Rattle.grid_geometry.specs.Common.{Position, position_eq, position_cmp, Edge, edges, Segment}
use Rattle.ring_machine.specs.Common.{has, is_distinct, segment_of, segments}
use Rattle.ring_machine.proofs.Common.{edges_to, edges_is, first_or, In, in_flat, in-flat_map, position_eq-sym}
use Rattle.ring_machine.proofs.Common.{edge_ends}
use Rattle.walk_faults.specs.Common.{segment_at, walk_segments, is_closed_ring}

-- ---- any walk

-- the ends of a segment are those of its edge
pub ends_are : (e : Edge) → (((segment_of e).lo ≡ e.0) × ((segment_of e).hi ≡ e.1)) ⊎ (((segment_of e).lo ≡ e.1) × ((segment_of e).hi ≡ e.0))
ends_are e = by (is_gt (position_cmp e.0 e.1))
  where
    by : (t : Bool)
        → (((cond {A = Segment} t (record { lo = e.1; hi = e.0 }) (record { lo = e.0; hi = e.1 })).lo ≡ e.0) × ((cond {A = Segment} t (record { lo = e.1; hi = e.0 }) (record { lo = e.0; hi = e.1 })).hi ≡ e.1)) ⊎ (((cond {A = Segment} t (record { lo = e.1; hi = e.0 }) (record { lo = e.0; hi = e.1 })).lo ≡ e.1) × ((cond {A = Segment} t (record { lo = e.1; hi = e.0 }) (record { lo = e.0; hi = e.1 })).hi ≡ e.0))
    by true = inr (refl, refl)
    by false = inl (refl, refl)

-- what segment an edge with different ends gives
edge_of : (s : Segment) (e : Edge) → In s (segment_at e) → segment_of e ≡ s
edge_of s e i = by (position_eq e.0 e.1) i
  where
    by : (t : Bool) → In s (cond t [] (segment_of e ∷ [])) → segment_of e ≡ s
    by true j = absurd j
    by false (inl f) = f
    by false (inr j) = absurd j

-- both ends of a segment of a walk are positions of the walk
pub segment_ends : (walk : List Position) (s : Segment) → In s (walk_segments walk) → In s.lo walk × In s.hi walk
segment_ends walk s i =
    let e = in_flat segment_at s (edges walk) i in
    let k = edge_ends walk e.0 e.1 in
    subst (λ z. In z.lo walk × In z.hi walk) (edge_of s e.0 e.2) (elim (ends_are e.0) [
      | inl m ↦ (subst (λ z. In z walk) (sym m.0) k.0, subst (λ z. In z walk) (sym m.1) k.1)
      | inr m ↦ (subst (λ z. In z walk) (sym m.0) k.1, subst (λ z. In z walk) (sym m.1) k.0)
    ])

-- ---- a ring

-- the ends of each edge of a way over different positions differ
way_differs : (q : Position) (ps : List Position) → is_distinct ps ≡ true → has ps q ≡ false → (e : Edge) → In e (edges_to q ps)
    → position_eq e.0 e.1 ≡ false
way_differs q [] d h e i = absurd i
way_differs q (p ∷ []) d h e (inl f) =
    subst (λ z. position_eq z.0 z.1 ≡ false) f (position_eq-sym p q ∙ (or_parts (position_eq q p) (has [] q) h).0)
way_differs q (p ∷ []) d h e (inr i) = absurd i
way_differs q (p ∷ r ∷ ps) d h e (inl f) =
    let away = not-true (has (r ∷ ps) p) (and_parts (not (has (r ∷ ps) p)) (is_distinct (r ∷ ps)) d).0 in
    subst (λ z. position_eq z.0 z.1 ≡ false) f (or_parts (position_eq p r) (has ps p) away).0
way_differs q (p ∷ r ∷ ps) d h e (inr i) =
    way_differs q (r ∷ ps) (and_parts (not (has (r ∷ ps) p)) (is_distinct (r ∷ ps)) d).1 (or_parts (position_eq q p) (has (r ∷ ps) q) h).1 e i

too_few : (n : ℕ) → n ≤ 1 → nat_le 3 n ≡ true → ⊥
too_few n h k = grind (arith, nat_tests)

pub ring_differs : (walk : List Position) → is_closed_ring walk ≡ true → (e : Edge) → In e (edges walk) → position_eq e.0 e.1 ≡ false
ring_differs [] r e i = absurd i
ring_differs (p ∷ []) r e i =
    absurd (too_few 1 (omega arith) (and_parts (nat_le 3 1) (is_distinct (p ∷ [])) r).0)
ring_differs (p ∷ q ∷ ps) r e i =
    let d = (and_parts (nat_le 3 (length (p ∷ q ∷ ps))) (is_distinct (p ∷ q ∷ ps)) r).1 in
    let away = not-true (has (q ∷ ps) p) (and_parts (not (has (q ∷ ps) p)) (is_distinct (q ∷ ps)) d).0 in
    first_or_other d away (subst (In e) (edges_is p (q ∷ ps)) i)
  where
    first_or_other : is_distinct (p ∷ q ∷ ps) ≡ true → has (q ∷ ps) p ≡ false → In e (edges_to p (p ∷ q ∷ ps)) → position_eq e.0 e.1 ≡ false
    first_or_other d away (inl f) = subst (λ z. position_eq z.0 z.1 ≡ false) f (or_parts (position_eq p q) (has ps p) away).0
    first_or_other d away (inr j) = way_differs p (q ∷ ps) (and_parts (not (has (q ∷ ps) p)) (is_distinct (q ∷ ps)) d).1 away e j

-- all edges of a ring give segments
segments_at : (es : List Edge) → ((e : Edge) → In e es → position_eq e.0 e.1 ≡ false) → flat_map segment_at es ≡ map segment_of es
segments_at [] h = refl
segments_at (e ∷ es) h =
    ap₂ (λ t z. cond {A = List Segment} t [] (segment_of e ∷ []) ++ z) (h e (inl refl)) (segments_at es (λ f i. h f (inr i)))

pub ring_segments : (walk : List Position) → is_closed_ring walk ≡ true → walk_segments walk ≡ segments walk
ring_segments walk r = segments_at (edges walk) (ring_differs walk r)

-- an edge begins at each position of a walk
edge_from : (walk : List Position) (p : Position) → In p walk → (e : Edge) × In e (edges walk) × (e.0 ≡ p)
edge_from [] p i = absurd i
edge_from (q ∷ ps) p i =
    let e = on q (q ∷ ps) i in
    (e.0, subst (In e.0) (sym (edges_is q ps)) e.1, e.2)
  where
    on : (q : Position) (qs : List Position) → In p qs → (e : Edge) × In e (edges_to q qs) × (e.0 ≡ p)
    on q [] j = absurd j
    on q (r ∷ qs) (inl f) = ((r, first_or q qs), inl refl, f)
    on q (r ∷ qs) (inr j) = let e = on q qs j in (e.0, inr e.1, e.2)

-- each position of a ring is an end of one of its segments
pub vertex_side : (walk : List Position) → is_closed_ring walk ≡ true → (p : Position) → In p walk
    → (s : Segment) × In s (walk_segments walk) × ((s.lo ≡ p) ⊎ (s.hi ≡ p))
vertex_side walk r p i =
    let e = edge_from walk p i in
    let given : In (segment_of e.0) (segment_at e.0) = subst (λ t. In (segment_of e.0) (cond t [] (segment_of e.0 ∷ []))) (sym (ring_differs walk r e.0 e.1)) (inl refl) in (
      segment_of e.0,
      in-flat_map segment_at e.0 (segment_of e.0) (edges walk) e.1 given,
      elim (ends_are e.0) [ inl m ↦ inl (m.0 ∙ e.2) | inr m ↦ inr (m.1 ∙ e.2) ],
    )
