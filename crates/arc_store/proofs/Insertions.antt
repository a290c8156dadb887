-- What an insertion of a position makes of the segments and the size of a document.
use Rattle.kit_words.proofs.Common.{◌≡◌, ◌≢◌, ◌+◌, Bool, true, false, refl, sym, ap, ap₂, ◌∙◌, cond, List, [], ◌∷◌, map}
use Rattle.kit_words.proofs.Common.{length, ◌⊎◌, inl, inr, ◌&&◌, ◌||◌, arith, not, flat_map, list_any, filter, sum_by}
use Rattle.kit_words.proofs.Common.{false≢true, length-append, length-map, list_any-append, false_from_ne_true}
use Rattle.grid_geometry.specs.Common.{Position, Segment, segment, segment_eq, is_end, IsSegment, Edge, edges}
use Rattle.grid_geometry.proofs.Common.{segment-comm}
use Rattle.ring_machine.specs.Common.{is_ring, canonical, segment_of, segments, Document, rings, size, is_vertex}
use Rattle.ring_machine.specs.Common.{is_segment, ins, ins_ring}
use Rattle.ring_machine.proofs.Common.{g_ins, ins_is, ins-keeps, is_of, starts, starts_of, by_edges, closed}
use Rattle.ring_machine.proofs.Common.{edited_chain, starts-flat_map, In, segment_eq-true, segment_eq-sym, same_ends}
use Rattle.ring_machine.proofs.Common.{ring_once, rings-in_rings, ring_distinct, edges_start, AtMostOne, any_alike}
use Rattle.ring_machine.proofs.Common.{canonical_turns, ring_chain, canonical_length}
use Rattle.arc_tables.specs.Common.{one}
use Rattle.ring_store.proofs.Common.{sum_by-map, sum_more}
use Rattle.feature_exchange.proofs.Common.{two_positions, two_ends, end_of_two}
use Rattle.arc_store.proofs.Indexed.{end_vertex}
use Rattle.arc_store.proofs.RingEdits.{edges_turned}

-- ---- the segments of a ring

-- the ring has this segment
abbrev pub has_segment : Segment → List Position → Bool
has_segment t ring = list_any (segment_eq t) (segments ring)

pub any_mapped : {A B : Type 0} (f : A → B) (test : B → Bool) (xs : List A)
    → list_any test (map f xs) ≡ list_any (λ x. test (f x)) xs
any_mapped f test [] = refl
any_mapped f test (x ∷ xs) = ap (λ z. test (f x) || z) (any_mapped f test xs)

pub any_flat : {A B : Type 0} (f : A → List B) (test : B → Bool) (xs : List A)
    → list_any test (flat_map f xs) ≡ list_any (λ x. list_any test (f x)) xs
any_flat f test [] = refl
any_flat f test (x ∷ xs) = list_any-append test (f x) (flat_map f xs) ∙ ap (λ z. list_any test (f x) || z) (any_flat f test xs)

-- the segments of the edges are searched
pub has_segment_by : (t : Segment) (ring : List Position)
    → has_segment t ring ≡ list_any (is_of t) (edges ring)
has_segment_by t ring = any_mapped segment_of (segment_eq t) (edges ring) ∙ any_alike (λ e. segment_eq t (segment_of e)) (is_of t) (λ e. segment_eq-sym t (segment_of e)) (edges ring)

pub is_segment_by : (d : Document) (t : Segment)
    → is_segment d t ≡ list_any (has_segment t) (rings d)
is_segment_by d t = any_flat segments (segment_eq t) (rings d)

-- ---- one ring

abbrev led : Segment → Position → List Edge → List Edge
led s q es = flat_map (g_ins s q) es

-- the edges of the ring that is led over q
led_edges : (test : Edge → Bool) (a b q : Position) (p : Position) (ps : List Position)
    → list_any test (edges (ins_ring a b q (p ∷ ps))) ≡ list_any test (led (segment a b) q (edges (p ∷ ps)))
led_edges test a b q p ps =
    let es = edges (p ∷ ps) in
    let by = by_edges (starts_of (g_ins (segment a b) q)) (p ∷ ps) in
    ap (λ z. list_any test (edges z)) (sym (ins_is a b q (p ∷ ps)))
    ∙ sym (edges_turned test by (canonical by) (canonical_turns by))
    ∙ ap (λ z. list_any test (edges z)) (sym (starts-flat_map (g_ins (segment a b) q) es))
    ∙ ap (list_any test) (closed p (led (segment a b) q es) (edited_chain (g_ins (segment a b) q) (λ w. w) (ins-keeps (segment a b) q) p es p (ring_chain p ps)))

-- an edge that is led over q has the two new segments
two_new : (a b q : Position) (t : Segment) (e : Edge) → is_of (segment a b) e ≡ true
    → list_any (is_of t) ((e.0, q) ∷ (q, e.1) ∷ []) ≡ list_any (segment_eq t) (segment a q ∷ segment q b ∷ [])
two_new a b q t e h = by (same_ends (a, b) e (sym (segment_eq-true (segment_of e) (segment a b) h)))
  where
    or_swap : (x y : Bool) → (x || (y || false)) ≡ (y || (x || false))
    or_swap x y = grind arith

    by : ((e.0 ≡ a) × (e.1 ≡ b)) ⊎ ((e.0 ≡ b) × (e.1 ≡ a))
        → list_any (is_of t) ((e.0, q) ∷ (q, e.1) ∷ []) ≡ list_any (segment_eq t) (segment a q ∷ segment q b ∷ [])
    by (inl m) = ap₂ (λ y z. y || (z || false))
        (segment_eq-sym (segment e.0 q) t ∙ ap (λ z. segment_eq t (segment z q)) m.0)
        (segment_eq-sym (segment q e.1) t ∙ ap (λ z. segment_eq t (segment q z)) m.1)
    by (inr m) = ap₂ (λ y z. y || (z || false))
        (segment_eq-sym (segment e.0 q) t ∙ ap (λ z. segment_eq t (segment z q)) m.0 ∙ ap (segment_eq t) (segment-comm b q))
        (segment_eq-sym (segment q e.1) t ∙ ap (λ z. segment_eq t (segment q z)) m.1 ∙ ap (segment_eq t) (segment-comm q a))
        ∙ or_swap (segment_eq t (segment q b)) (segment_eq t (segment a q))

-- the segments of the edges that are led over q
led_segments : (a b q : Position) (t : Segment) (es : List Edge)
    → list_any (is_of t) (led (segment a b) q es)
    ≡ ((list_any (is_of t) es && not (segment_eq t (segment a b))) || (list_any (is_of (segment a b)) es && list_any (segment_eq t) (segment a q ∷ segment q b ∷ [])))
led_segments a b q t [] = refl
led_segments a b q t (e ∷ es) =
    list_any-append (is_of t) (g_ins (segment a b) q e) (led (segment a b) q es)
    ∙ ap (λ z. list_any (is_of t) (g_ins (segment a b) q e) || z) (led_segments a b q t es)
    ∙ by (is_of (segment a b) e) refl
  where
    -- u: the edge is of t;  v: one of the rest;  z: t is the segment;  w: one of the rest is of the segment
    of_it : (v z w c : Bool) → (c || ((v && not z) || (w && c))) ≡ (((z || v) && not z) || ((true || w) && c))
    of_it v z w c = grind arith

    of_other : (u v z w c : Bool) → (u ≡ true → z ≡ false)
        → ((u || false) || ((v && not z) || (w && c))) ≡ (((u || v) && not z) || (w && c))
    of_other u v z w c f = grind arith

    by : (x : Bool) → is_of (segment a b) e ≡ x
        → (list_any (is_of t) (cond x ((e.0, q) ∷ (q, e.1) ∷ []) (e ∷ [])) || ((list_any (is_of t) es && not (segment_eq t (segment a b))) || (list_any (is_of (segment a b)) es && list_any (segment_eq t) (segment a q ∷ segment q b ∷ []))))
        ≡ ((list_any (is_of t) (e ∷ es) && not (segment_eq t (segment a b))) || ((x || list_any (is_of (segment a b)) es) && list_any (segment_eq t) (segment a q ∷ segment q b ∷ [])))
    by true h =
        ap (λ c. c || ((list_any (is_of t) es && not (segment_eq t (segment a b))) || (list_any (is_of (segment a b)) es && list_any (segment_eq t) (segment a q ∷ segment q b ∷ [])))) (two_new a b q t e h)
        ∙ of_it (list_any (is_of t) es) (segment_eq t (segment a b)) (list_any (is_of (segment a b)) es) (list_any (segment_eq t) (segment a q ∷ segment q b ∷ []))
        ∙ ap (λ u. ((u || list_any (is_of t) es) && not (segment_eq t (segment a b))) || ((true || list_any (is_of (segment a b)) es) && list_any (segment_eq t) (segment a q ∷ segment q b ∷ [])))
        (ap (segment_eq t) (sym (segment_eq-true (segment_of e) (segment a b) h)) ∙ segment_eq-sym t (segment_of e))
    by false h =
        of_other (is_of t e) (list_any (is_of t) es) (segment_eq t (segment a b)) (list_any (is_of (segment a b)) es) (list_any (segment_eq t) (segment a q ∷ segment q b ∷ []))
        (λ u. ap (λ z. segment_eq z (segment a b)) (sym (segment_eq-true (segment_of e) t u)) ∙ h)

dist : (f g u v z c : Bool)
    → (((f && z) || (g && c)) || ((u && z) || (v && c))) ≡ (((f || u) && z) || ((g || v) && c))
dist f g u v z c = grind arith

pub any_parts : {A : Type 0} (f g : A → Bool) (z c : Bool) (xs : List A)
    → list_any (λ x. (f x && z) || (g x && c)) xs ≡ ((list_any f xs && z) || (list_any g xs && c))
any_parts f g z c [] = refl
any_parts f g z c (x ∷ xs) =
    ap (λ w. ((f x && z) || (g x && c)) || w) (any_parts f g z c xs)
    ∙ dist (f x) (g x) (list_any f xs) (list_any g xs) z c

-- the two segments that come in
abbrev pub over_segments : Position → Position → Position → List Segment
over_segments a b q = segment a q ∷ segment q b ∷ []

pub ring_inserted : (a b q : Position) (t : Segment) (ring : List Position)
    → has_segment t (ins_ring a b q ring)
    ≡ ((has_segment t ring && not (segment_eq t (segment a b))) || (has_segment (segment a b) ring && list_any (segment_eq t) (over_segments a b q)))
ring_inserted a b q t [] = refl
ring_inserted a b q t (p ∷ ps) =
    has_segment_by t (ins_ring a b q (p ∷ ps)) ∙ led_edges (is_of t) a b q p ps ∙ led_segments a b q t (edges (p ∷ ps))
    ∙ sym (ap₂ (λ y z. (y && not (segment_eq t (segment a b))) || (z && list_any (segment_eq t) (over_segments a b q))) (has_segment_by t (p ∷ ps)) (has_segment_by (segment a b) (p ∷ ps)))

-- ---- the document

-- the segments after an insertion: the one of a and b is led over q
pub segments_ins : (d : Document) (a b q : Position) → is_segment d (segment a b) ≡ true → (t : Segment)
    → is_segment (ins d a b q) t
    ≡ ((is_segment d t && not (segment_eq t (segment a b))) || list_any (segment_eq t) (over_segments a b q))
segments_ins d a b q border t =
    is_segment_by (ins d a b q) t
    ∙ ap (list_any (has_segment t)) (rings-in_rings (ins_ring a b q) d)
    ∙ any_mapped (ins_ring a b q) (has_segment t) (rings d)
    ∙ any_alike (λ ring. has_segment t (ins_ring a b q ring)) (λ ring. (has_segment t ring && not (segment_eq t (segment a b))) || (has_segment (segment a b) ring && list_any (segment_eq t) (over_segments a b q))) (ring_inserted a b q t) (rings d)
    ∙ any_parts (has_segment t) (has_segment (segment a b)) (not (segment_eq t (segment a b))) (list_any (segment_eq t) (over_segments a b q)) (rings d)
    ∙ ap₂ (λ y w. (y && not (segment_eq t (segment a b))) || (w && list_any (segment_eq t) (over_segments a b q))) (sym (is_segment_by d t)) (sym (is_segment_by d (segment a b)) ∙ border)

-- the ends of a segment are vertices
pub border_ends : (d : Document) (a b : Position) → is_segment d (segment a b) ≡ true
    → (is_vertex d a ≡ true) × (is_vertex d b ≡ true)
border_ends d a b h = let e = two_ends a b in (end_vertex d a (segment a b) h e.0, end_vertex d b (segment a b) h e.1)

pub vertex_differs : (d : Document) (a q : Position) → is_vertex d a ≡ true → is_vertex d q ≡ false → a ≢ q
vertex_differs d a q h k e = false≢true (sym k ∙ ap (is_vertex d) (sym e) ∙ h)

-- what ends at no vertex is no segment
pub not_segment : (d : Document) (q : Position) (t : Segment) → is_vertex d q ≡ false → is_end q t ≡ true
    → is_segment d t ≡ false
not_segment d q t k e = false_from_ne_true _ (λ h. false≢true (sym k ∙ end_vertex d q t h e))

-- the two that come in are segments, are two, and are new
pub record Comes (d : Document) (s t : Segment) : Type 0 where
  pub first : IsSegment s
  pub second : IsSegment t
  pub two : segment_eq s t ≡ false
  pub first_new : is_segment d s ≡ false
  pub second_new : is_segment d t ≡ false

pub segments_come : (d : Document) (a b q : Position) → a ≢ b → is_segment d (segment a b) ≡ true → is_vertex d q ≡ false
    → Comes d (segment a q) (segment q b)
segments_come d a b q apart border free =
    let v = border_ends d a b border in
    let a_differs = vertex_differs d a q v.0 free in
    let b_differs = vertex_differs d b q v.1 free in
    record {
      first = two_positions a q a_differs;
      second = two_positions q b (λ e. b_differs (sym e));
      two = false_from_ne_true _ (λ h. elim (end_of_two a q b (ap (is_end a) (sym (segment_eq-true (segment a q) (segment q b) h)) ∙ (two_ends a q).0)) [
        | inl e ↦ a_differs e
        | inr e ↦ apart e
      ]);
      first_new = not_segment d q (segment a q) free (two_ends a q).1;
      second_new = not_segment d q (segment q b) free (two_ends q b).0;
    }

-- ---- the size

length_led : (s : Segment) (q x : Position) (es : List Edge) → AtMostOne (is_of s) x es
    → length (flat_map (starts_of (g_ins s q)) es) ≡ length es + one (list_any (is_of s) es)
length_led s q x [] h = omega arith
length_led s q x (e ∷ es) h =
    omega (arith, length-append (starts_of (g_ins s q) e) (flat_map (starts_of (g_ins s q)) es), length_led s q x es h.1, by (is_of s e) h.0)
  where
    by : (t : Bool) → (t ≡ true → list_any (is_of s) es ≡ false)
        → length (starts (cond t ((e.0, q) ∷ (q, e.1) ∷ []) (e ∷ []))) + one (list_any (is_of s) es) ≡ 1 + one (t || list_any (is_of s) es)
    by t u = grind arith

pub length_inserted : (a b q : Position) (ring : List Position) → is_ring ring ≡ true
    → length (ins_ring a b q ring) ≡ length ring + one (has_segment (segment a b) ring)
length_inserted a b q (x ∷ y ∷ z ∷ ps) h =
    let ring = x ∷ y ∷ z ∷ ps in
    let s = segment a b in
    omega (
      arith,
      ap length (ins_is a b q ring),
      canonical_length (by_edges (starts_of (g_ins s q)) ring),
      length_led s q x (edges ring) (ring_once s x y z ps (ring_distinct ring h)),
      ap one (has_segment_by s ring),
      length-map (edges ring) (λ e. e.0),
      ap length (edges_start x (y ∷ z ∷ ps)),
    )
length_inserted a b q _ h = absurd (false≢true h)

-- every ring of the document is a ring
abbrev pub AreRings : Document → Type 0
AreRings d = (ring : List Position) → In ring (rings d) → is_ring ring ≡ true

-- the size after an insertion: one more for each ring that has the segment
pub size_ins : (d : Document) (a b q : Position) → AreRings d
    → size (ins d a b q) ≡ size d + length (filter (has_segment (segment a b)) (rings d))
size_ins d a b q are =
    ap (sum_by length) (rings-in_rings (ins_ring a b q) d) ∙ sum_by-map length (ins_ring a b q) (rings d)
    ∙ sum_more (λ ring. length (ins_ring a b q ring)) length (has_segment (segment a b)) (rings d)
    (λ ring i. length_inserted a b q ring (are ring i))
