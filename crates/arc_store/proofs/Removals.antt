-- What a removal of a position makes of the segments and the size of a document, where it has the
-- same neighbours in each ring; and what stands around it then.
use Rattle.kit_words.proofs.Common.{◌≡◌, ◌+◌, Bool, true, false, refl, sym, ap, ap₂, ◌∙◌, subst, cond, List, [], ◌∷◌}
use Rattle.kit_words.proofs.Common.{◌++◌, length, inl, inr, ◌&&◌, ◌||◌, arith, append_assoc, not, flat_map, list_any}
use Rattle.kit_words.proofs.Common.{list_all, filter, sum_by, false≢true, length-append, filter-append, list_any-append}
use Rattle.kit_words.proofs.Common.{false_from_ne_true}
use Rattle.grid_geometry.specs.Common.{Position, position_eq, Segment, segment, segment_eq, is_end, Edge, edges, links}
use Rattle.grid_geometry.proofs.Common.{segment-comm}
use Rattle.ring_machine.specs.Common.{has, is_distinct, is_ring, canonical, segment_of, spots, Document, rings, size}
use Rattle.ring_machine.specs.Common.{is_vertex, is_segment, is_bridged, holds_other, remove_sweeps, del, del_ring}
use Rattle.ring_machine.specs.Common.{around, all_equal, is_junction}
use Rattle.ring_machine.proofs.Common.{position_eq-true, position_eq-refl, segment_ordered, is_of, canonical_length}
use Rattle.ring_machine.proofs.Common.{links-append, In, in-append, in_left, all_in, has-in, in-has, edge_in, end_place}
use Rattle.ring_machine.proofs.Common.{place_around, others, filter_lacks, segment_eq-true, segment_eq-sym}
use Rattle.ring_machine.proofs.Common.{rings-in_rings, Rotated, ring_distinct, ring_long, any_in, in_any, same_answer}
use Rattle.ring_machine.proofs.Common.{in_mapped, in_flat, canonical_turns, ring_is_canonical, any_there, in-filter}
use Rattle.arc_tables.specs.Common.{one}
use Rattle.ring_store.proofs.Common.{sum_by-map, sum_more, beside_edges}
use Rattle.feature_exchange.proofs.Common.{two_ends, end_of_two}
use Rattle.arc_store.proofs.Insertions.{AreRings, has_segment, has_segment_by, is_segment_by, any_mapped, any_parts}
use Rattle.arc_store.proofs.RingEdits.{edges_turned, edge_turned, BegunAt, begun_at}
use Rattle.arc_store.proofs.RingEdits.{edge_back, rest_lacks, next_differs, last_differs}

-- ---- one ring that has p

pub rotated-back : (xs ys : List Position) → Rotated xs ys → Rotated ys xs
rotated-back xs ys r = record { us = r.vs; vs = r.us; from = r.to; to = r.from }

length-rotated : (xs ys : List Position) → Rotated xs ys → length xs ≡ length ys
length-rotated xs ys r = omega (arith, ap length r.from, ap length r.to, length-append r.us r.vs, length-append r.vs r.us)

-- an edge of a ring without p does not end at p
off_edge : (p x : Position) (ps : List Position) → has (x ∷ ps) p ≡ false → (s : Segment) (e : Edge) → In e (edges (x ∷ ps))
    → is_of s e ≡ true → is_end p s ≡ false
off_edge p x ps n s e i is = false_from_ne_true _ (λ u.
    let ends = edge_in x ps e i in
    false≢true (sym n ∙ elim (end_of_two p e.0 e.1 (ap (is_end p) (segment_eq-true (segment_of e) s is) ∙ u)) [
      | inl m ↦ in-has p (x ∷ ps) (subst (λ z. In z (x ∷ ps)) (sym m) ends.0)
      | inr m ↦ in-has p (x ∷ ps) (subst (λ z. In z (x ∷ ps)) (sym m) ends.1)
    ]))

module _ (p : Position) (ring : List Position) (d : is_distinct ring ≡ true) (t : BegunAt p ring) where
  -- the others, begun after p
  abbrev rest : List Position
  rest = t.x ∷ t.mid ++ t.y ∷ []

  lacks : has rest p ≡ false
  lacks = rest_lacks p ring d t

  others_begun : Rotated (others p ring) rest
  others_begun = record {
    us = others p t.turned.us;
    vs = others p t.turned.vs;
    from = ap (others p) t.turned.from ∙ filter-append (λ r. not (position_eq r p)) t.turned.us t.turned.vs;
    to = sym (ap (λ z. cond (not z) (p ∷ others p rest) (others p rest)) (position_eq-refl p) ∙ filter_lacks p rest lacks)
        ∙ ap (others p) t.turned.to ∙ filter-append (λ r. not (position_eq r p)) t.turned.vs t.turned.us;
  }

  -- one position goes
  length_with : length ring ≡ length (del_ring p ring) + 1
  length_with =
      omega (arith, length-rotated ring (p ∷ rest) t.turned, canonical_length (others p ring), length-rotated (others p ring) rest others_begun)

  -- the edges that stay
  abbrev inner : List Edge
  inner = links rest

  links_on : (q : Position) → links (rest ++ q ∷ []) ≡ inner ++ (t.y, q) ∷ []
  links_on q = ap links (append_assoc (t.x ∷ t.mid) (t.y ∷ []) (q ∷ [])) ∙ links-append (t.x ∷ t.mid) t.y (q ∷ [])

  edges_before : (test : Edge → Bool) → list_any test (edges ring)
      ≡ (test (p, t.x) || (list_any test inner || (test (t.y, p) || false)))
  edges_before test =
      edges_turned test ring (p ∷ rest) t.turned
      ∙ ap (λ z. test (p, t.x) || list_any test z) (links_on p)
      ∙ ap (λ z. test (p, t.x) || z) (list_any-append test inner ((t.y, p) ∷ []))

  edges_after : (test : Edge → Bool) → list_any test (edges (del_ring p ring))
      ≡ (list_any test inner || (test (t.y, t.x) || false))
  edges_after test =
      sym (edges_turned test (others p ring) (del_ring p ring) (canonical_turns (others p ring)))
      ∙ edges_turned test (others p ring) rest others_begun
      ∙ ap (list_any test) (links_on t.x)
      ∙ list_any-append test inner ((t.y, t.x) ∷ [])

  -- no edge that stays ends at p
  inner_off : (s : Segment) → list_any (is_of s) inner ≡ true → is_end p s ≡ false
  inner_off s h =
      let e = any_in (is_of s) inner h in
      off_edge p t.x (t.mid ++ t.y ∷ []) lacks s e.0 (subst (In e.0) (sym (links_on t.x)) (in_left e.0 inner ((t.y, t.x) ∷ []) e.1)) e.2

  of_first : (s : Segment) (q : Position) → is_of s (p, q) ≡ true → is_end p s ≡ true
  of_first s q h = ap (is_end p) (sym (segment_eq-true (segment p q) s h)) ∙ (two_ends p q).0

  of_last : (s : Segment) (q : Position) → is_of s (q, p) ≡ true → is_end p s ≡ true
  of_last s q h = ap (is_end p) (sym (segment_eq-true (segment q p) s h)) ∙ (two_ends q p).1

  -- the segments at p go, and that of its neighbours comes
  segments_with : (s : Segment)
      → has_segment s (del_ring p ring)
      ≡ ((has_segment s ring && not (is_end p s)) || segment_eq s (segment t.x t.y))
  segments_with s =
      has_segment_by s (del_ring p ring) ∙ edges_after (is_of s)
      ∙ by (list_any (is_of s) inner) (is_of s (t.y, t.x)) (is_of s (p, t.x)) (is_of s (t.y, p)) (is_end p s) (inner_off s) (of_first s t.x) (of_last s t.y)
      ∙ ap₂ (λ y z. (y && not (is_end p s)) || z) (sym (has_segment_by s ring ∙ edges_before (is_of s))) (segment_eq-sym (segment t.y t.x) s ∙ ap (segment_eq s) (segment-comm t.y t.x))
    where
      by : (a b c f e : Bool) → (a ≡ true → e ≡ false) → (c ≡ true → e ≡ true) → (f ≡ true → e ≡ true)
          → (a || (b || false)) ≡ (((c || (a || (f || false))) && not e) || b)
      by a b c f e h k l = grind arith

  -- only one edge ends at p, and only one begins there
  before_p : (a : Position) → In (a, p) (edges ring) → a ≡ t.y
  before_p a h = at (edge_turned (p ∷ rest) ring (rotated-back ring (p ∷ rest) t.turned) (a, p) h)
    where
      at : In (a, p) (edges (p ∷ rest)) → a ≡ t.y
      at (inl e) = absurd (next_differs p ring d t (sym (ap (λ (u : Edge). u.1) e)))
      at (inr e) = elim (in-append (a, p) inner ((t.y, p) ∷ []) (subst (In (a, p)) (links_on p) e)) [
        | inl u ↦ absurd (false≢true (sym lacks ∙ in-has p rest (edge_in t.x (t.mid ++ t.y ∷ []) (a, p) (subst (In (a, p)) (sym (links_on t.x)) (in_left (a, p) inner ((t.y, t.x) ∷ []) u))).1))
        | inr u ↦ elim u [ inl v ↦ sym (ap (λ (w : Edge). w.0) v) | inr v ↦ absurd v ]
      ]

  after_p : (c : Position) → In (p, c) (edges ring) → c ≡ t.x
  after_p c h = at (edge_turned (p ∷ rest) ring (rotated-back ring (p ∷ rest) t.turned) (p, c) h)
    where
      at : In (p, c) (edges (p ∷ rest)) → c ≡ t.x
      at (inl e) = sym (ap (λ (u : Edge). u.1) e)
      at (inr e) = elim (in-append (p, c) inner ((t.y, p) ∷ []) (subst (In (p, c)) (links_on p) e)) [
        | inl u ↦ absurd (false≢true (sym lacks ∙ in-has p rest (edge_in t.x (t.mid ++ t.y ∷ []) (p, c) (subst (In (p, c)) (sym (links_on t.x)) (in_left (p, c) inner ((t.y, t.x) ∷ []) u))).0))
        | inr u ↦ elim u [ inl v ↦ absurd (last_differs p ring d t (sym (ap (λ (w : Edge). w.0) v))) | inr v ↦ absurd v ]
      ]

-- the segment of the neighbours of p is all that stands around p in a ring
pub spot_is : (p : Position) (ring : List Position) → is_distinct ring ≡ true → (t : BegunAt p ring)
    → (s : Segment) → In (p, s) (spots ring) → s ≡ segment t.x t.y
spot_is p (x ∷ y ∷ zs) d t s h =
    let b = beside_edges x y zs (p, s) h in
    b.2 ∙ ap₂ segment (before_p p (x ∷ y ∷ zs) d t b.0 b.3) (after_p p (x ∷ y ∷ zs) d t b.1 b.4) ∙ segment-comm t.y t.x
spot_is p _ d t s h = absurd h

-- a ring with a place of p has p
spot_has : (p : Position) (ring : List Position) (s : Segment) → In (p, s) (spots ring) → has ring p ≡ true
spot_has p (x ∷ y ∷ zs) s h =
    let b = beside_edges x y zs (p, s) h in
    in-has p (x ∷ y ∷ zs) (edge_in x (y ∷ zs) (b.0, p) b.3).1
spot_has p _ s h = absurd h

-- and p has a place there
pub spot_of : (p : Position) (ring : List Position) → is_ring ring ≡ true → (t : BegunAt p ring)
    → (s : Segment) × In (p, s) (spots ring)
spot_of p (x ∷ y ∷ zs) h t =
    let e = end_place x y zs (t.y, p) (edge_back p (x ∷ y ∷ zs) (ring_distinct (x ∷ y ∷ zs) h) t) in
    (segment t.y e.0, e.1)
spot_of p _ h t = absurd (false≢true h)

-- ---- a ring without p

pub same_without : (p : Position) (ring : List Position) → is_ring ring ≡ true → has ring p ≡ false
    → del_ring p ring ≡ ring
same_without p ring h n = ap canonical (filter_lacks p ring n) ∙ ring_is_canonical ring h

pub segments_off : (p : Position) (ring : List Position) → has ring p ≡ false → (s : Segment)
    → has_segment s ring ≡ true → is_end p s ≡ false
segments_off p [] n s h = absurd (false≢true h)
segments_off p (x ∷ ps) n s h =
    let e = any_in (is_of s) (edges (x ∷ ps)) (sym (has_segment_by s (x ∷ ps)) ∙ h) in
    off_edge p x ps n s e.0 e.1 e.2

-- ---- lists of one segment

all_same : (f : Segment → Bool) (s : Segment) (ss : List Segment) → ((t : Segment) → In t ss → t ≡ s)
    → f s ≡ true → list_all f ss ≡ true
all_same f s [] h e = refl
all_same f s (t ∷ ss) h e = ap₂ (λ y z. y && z) (ap f (h t (inl refl)) ∙ e) (all_same f s ss (λ u i. h u (inr i)) e)

any_one : (f : Segment → Bool) (s : Segment) (ss : List Segment) → ((t : Segment) → In t ss → t ≡ s)
    → In s ss → list_any f ss ≡ f s
any_one f s ss h i = same_answer _ (f s) (λ e. let t = any_in f ss e in ap f (sym (h t.0 t.1)) ∙ t.2) (λ e. in_any f s ss i e)

all_equal_one : (s : Segment) (ss : List Segment) → ((t : Segment) → In t ss → t ≡ s)
    → all_equal ss ≡ true
all_equal_one s [] h = refl
all_equal_one s (t ∷ ss) h = all_same (segment_eq t) s ss (λ u i. h u (inr i)) (ap (segment_eq t) (sym (h t (inl refl))) ∙ segment_ordered.eq-refl t)

pub all_equal_in : (ss : List Segment) → all_equal ss ≡ true → (s t : Segment) → In s ss → In t ss → s ≡ t
all_equal_in [] h s t i j = absurd i
all_equal_in (u ∷ ss) h s t i j = sym (is s i) ∙ is t j
  where
    is : (v : Segment) → In v (u ∷ ss) → u ≡ v
    is v (inl e) = e
    is v (inr i) = segment_eq-true u v (all_in (segment_eq u) ss v h i)

-- ---- the document

-- wherever a ring has p, its neighbours are the ends of this segment
abbrev pub HasSides : Document → Position → Segment → Type 0
HasSides d p bridge =
    (ring : List Position) → In ring (rings d) → (t : BegunAt p ring) → segment t.x t.y ≡ bridge

module _ (d : Document) (p : Position) (are : AreRings d) where
  pub begun_there : (ring : List Position) → In ring (rings d) → has ring p ≡ true → BegunAt p ring
  begun_there ring i h = begun_at p ring (has-in p ring h) (ring_long ring (are ring i))

  -- the size: one more for each ring that had p
  pub size_del : size d ≡ size (del d p) + length (filter (λ ring. has ring p) (rings d))
  size_del =
      sum_more length (λ ring. length (del_ring p ring)) (λ ring. has ring p) (rings d) each
      ∙ ap (λ z. z + length (filter (λ ring. has ring p) (rings d))) (sym (ap (sum_by length) (rings-in_rings (del_ring p) d) ∙ sum_by-map length (del_ring p) (rings d)))
    where
      each : (ring : List Position) → In ring (rings d) → length ring ≡ length (del_ring p ring) + one (has ring p)
      each ring i = by (has ring p) refl
        where
          by : (x : Bool) → has ring p ≡ x → length ring ≡ length (del_ring p ring) + one x
          by true h = length_with p ring (ring_distinct ring (are ring i)) (begun_there ring i h)
          by false h = omega (arith, ap length (same_without p ring (are ring i) h))

  module _ (bridge : Segment) (sides : HasSides d p bridge) (vertex : is_vertex d p ≡ true) where
    ring_segments : (s : Segment) (ring : List Position) → In ring (rings d)
        → has_segment s (del_ring p ring)
        ≡ ((has_segment s ring && not (is_end p s)) || (has ring p && segment_eq s bridge))
    ring_segments s ring i = by (has ring p) refl
      where
        by : (x : Bool) → has ring p ≡ x
            → has_segment s (del_ring p ring)
            ≡ ((has_segment s ring && not (is_end p s)) || (x && segment_eq s bridge))
        by true h =
            let t = begun_there ring i h in
            segments_with p ring (ring_distinct ring (are ring i)) t s
            ∙ ap (λ z. (has_segment s ring && not (is_end p s)) || segment_eq s z) (sides ring i t)
        by false h =
            ap (has_segment s) (same_without p ring (are ring i) h)
            ∙ kept (has_segment s ring) (is_end p s) (segments_off p ring h s)
          where
            kept : (a e : Bool) → (a ≡ true → e ≡ false) → a ≡ ((a && not e) || false)
            kept true true f = absurd (false≢true (sym (f refl)))
            kept true false f = refl
            kept false e f = refl

    -- the segments after a removal: those at p go, and that of its neighbours comes
    pub segments_del : (s : Segment)
        → is_segment (del d p) s ≡ ((is_segment d s && not (is_end p s)) || segment_eq s bridge)
    segments_del s =
        is_segment_by (del d p) s
        ∙ ap (list_any (has_segment s)) (rings-in_rings (del_ring p) d)
        ∙ any_mapped (del_ring p) (has_segment s) (rings d)
        ∙ any_there (λ ring. has_segment s (del_ring p ring)) (λ ring. (has_segment s ring && not (is_end p s)) || (has ring p && segment_eq s bridge)) (rings d) (ring_segments s)
        ∙ any_parts (has_segment s) (λ ring. has ring p) (not (is_end p s)) (segment_eq s bridge) (rings d)
        ∙ ap₂ (λ y z. (y && not (is_end p s)) || (z && segment_eq s bridge)) (sym (is_segment_by d s)) vertex

    -- ---- around p

    pub around_is : (s : Segment) → In s (around d p) → s ≡ bridge
    around_is s i =
        let u = in_mapped (λ (spot : Position × Segment). spot.1) s (filter (λ spot. position_eq p spot.0) (flat_map spots (rings d))) i in
        let f = in-filter (λ (spot : Position × Segment). position_eq p spot.0) u.0 (flat_map spots (rings d)) u.1 in
        let r = in_flat spots u.0 (rings d) f.0 in
        at r.0 r.1 (subst (λ z. In z (spots r.0)) (pair u.0 s (position_eq-true p u.0.0 f.1) u.2) r.2)
      where
        pair : (u : Position × Segment) (s : Segment) → p ≡ u.0 → u.1 ≡ s → u ≡ (p, s)
        pair u s e f = λ i. (sym e i, f i)

        at : (ring : List Position) → In ring (rings d) → In (p, s) (spots ring) → s ≡ bridge
        at ring j h =
            let t = begun_there ring j (spot_has p ring s h) in
            spot_is p ring (ring_distinct ring (are ring j)) t s h ∙ sides ring j t

    pub around_has : In bridge (around d p)
    around_has =
        let r = any_in (λ ring. has ring p) (rings d) vertex in
        let t = begun_there r.0 r.1 r.2 in
        let u = spot_of p r.0 (are r.0 r.1) t in
        let i = place_around d r.0 p u.0 r.1 u.1 in
        subst (λ z. In z (around d p)) (around_is u.0 i) i

    pub no_junction : is_junction d p ≡ false
    no_junction = ap not (all_equal_one bridge (around d p) around_is)

    -- a test of what stands around p
    pub bridged_by : is_bridged d p ≡ is_segment d bridge
    bridged_by = any_one (is_segment d) bridge (around d p) around_is around_has

    pub sweeps_by : remove_sweeps d p ≡ holds_other d (bridge.lo ∷ p ∷ bridge.hi ∷ []) bridge.lo p bridge.hi
    unfolding remove_sweeps
    sweeps_by = any_one (λ s. holds_other d (s.lo ∷ p ∷ s.hi ∷ []) s.lo p s.hi) bridge (around d p) around_is around_has
