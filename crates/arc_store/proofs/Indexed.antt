-- What an index that holds the segments of a document says of the document.
use Rattle.kit_words.proofs.Common.{◌≡◌, true, false, sym, ap, ◌∙◌, subst, List, [], ◌∷◌, ◌⊎◌, inl, inr, None}
use Rattle.kit_words.proofs.Common.{false≢true, false_from_ne_true}
use Rattle.std.specs.FinSet as set
use Rattle.grid_geometry.specs.Common.{Position, Segment, segment_eq, segment_lt, is_end, Edge, edges, conflict}
use Rattle.grid_geometry.proofs.Common.{conflict-comm, conflict-same}
use Rattle.ring_machine.specs.Ring as machine
use Rattle.ring_machine.specs.Common.{segment_of, segments, Document, rings, positions, is_vertex, is_segment}
use Rattle.ring_machine.specs.Common.{all_segments, Proper, first_pair, least_conflict}
use Rattle.ring_machine.proofs.Common.{segment_ordered, In, in-map, in-flat_map, has-in, in-has, edge_in, first_end}
use Rattle.ring_machine.proofs.Common.{vertex_in, segment_eq-true, edges_start, in_mapped, in_flat, any_in, in_any}
use Rattle.ring_machine.proofs.Common.{same_answer}
use Rattle.segment_index.specs.Common.{SegmentSet, has}
use Rattle.local_planarity.specs.Common.{IsEnds}
use Rattle.feature_exchange.specs.Common.{IsIndexed}
use Rattle.ring_store.proofs.Common.{has-eq}
use Rattle.feature_exchange.proofs.Common.{end_is, end_of_two}
use Rattle.ring_machine.proofs.Fewer.{none_bad}

-- ---- segments and vertices of a document

pub in_segments : (d : Document) (t : Segment) → is_segment d t ≡ true → In t (all_segments d)
in_segments d t h =
    let u = any_in (segment_eq t) (all_segments d) h in
    subst (λ z. In z (all_segments d)) (sym (segment_eq-true t u.0 u.2)) u.1

pub segment_in : (d : Document) (t : Segment) → In t (all_segments d) → is_segment d t ≡ true
segment_in d t h = in_any (segment_eq t) t (all_segments d) h (segment_ordered.eq-refl t)

pub has_positions : (d : Document) (p : Position) → machine.has (positions d) p ≡ is_vertex d p
has_positions d p = same_answer _ _ (λ h.
    let r = in_flat (λ (ring : List Position). ring) p (rings d) (has-in p (positions d) h) in
    in_any (λ ring. machine.has ring p) r.0 (rings d) r.1 (in-has p r.0 r.2))
    (λ h. in-has p (positions d) (vertex_in d p h))

-- an end of a segment is a vertex
pub end_vertex : (d : Document) (p : Position) (t : Segment) → is_segment d t ≡ true
    → is_end p t ≡ true → is_vertex d p ≡ true
end_vertex d p t h i =
    let r = in_flat segments t (rings d) (in_segments d t h) in
    let e = in_mapped segment_of t (edges r.0) r.2 in
    in_any (λ ring. machine.has ring p) r.0 (rings d) r.1 (in-has p r.0 (at r.0 e.0 e.1 (end_of_two p e.0.0 e.0.1 (ap (is_end p) e.2 ∙ i))))
  where
    at : (ring : List Position) (e : Edge) → In e (edges ring) → (p ≡ e.0) ⊎ (p ≡ e.1) → In p ring
    at [] e j k = absurd j
    at (x ∷ xs) e j (inl k) = subst (λ z. In z (x ∷ xs)) (sym k) (edge_in x xs e j).0
    at (x ∷ xs) e j (inr k) = subst (λ z. In z (x ∷ xs)) (sym k) (edge_in x xs e j).1

-- a vertex is an end of a segment
pub vertex_end : (d : Document) (p : Position) → is_vertex d p ≡ true
    → (t : Segment) × (is_segment d t ≡ true) × (is_end p t ≡ true)
vertex_end d p h =
    let r = any_in (λ ring. machine.has ring p) (rings d) h in
    at r.0 r.1 (has-in p r.0 r.2)
  where
    at : (ring : List Position) → In ring (rings d) → In p ring
        → (t : Segment) × (is_segment d t ≡ true) × (is_end p t ≡ true)
    at [] m i = absurd i
    at (x ∷ xs) m i =
        let e = in_mapped (λ (e : Edge). e.0) p (edges (x ∷ xs)) (subst (In p) (sym (edges_start x xs)) i) in (
          segment_of e.0,
          segment_in d (segment_of e.0) (in-flat_map segments (x ∷ xs) (segment_of e.0) (rings d) m (in-map segment_of e.0 (edges (x ∷ xs)) e.1)),
          end_is p (segment_of e.0) (subst (λ z. ((segment_of e.0).lo ≡ z) ⊎ ((segment_of e.0).hi ≡ z)) e.2 (first_end e.0.0 e.0.1)),
        )

-- ---- segments in conflict

pub none_conflict : (ss : List Segment) → least_conflict ss ≡ None → (s t : Segment) → In s ss
    → In t ss → conflict s t ≡ false
none_conflict ss h s t i j = false_from_ne_true _ (λ e.
    let f : segment_lt s t ≡ false = false_from_ne_true _ (λ f. none_bad ss h (s, t) (record { order = f; left = i; right = j; meet = e })) in
    let g : segment_lt t s ≡ false = false_from_ne_true _ (λ g. none_bad ss h (t, s) (record { order = g; left = j; right = i; meet = conflict-comm t s ∙ e })) in
    false≢true (sym (ap (conflict s) (sym (segment_ordered.total s t f g)) ∙ conflict-same s) ∙ e))

-- ---- what the index says

module _ (d : Document) (held : SegmentSet) (indexed : IsIndexed d held) where
  pub indexed_has : (t : Segment) → has (all_segments d) t ≡ set.contains held t
  indexed_has t = has-eq (all_segments d) t ∙ sym (indexed t)

  -- the positions of the document are the ends of the held segments
  pub indexed_ends : IsEnds held (positions d)
  indexed_ends = record {
    each = λ p t h i. has_positions d p ∙ end_vertex d p t (sym (indexed t) ∙ h) i;
    only = λ p h.
        let e = vertex_end d p (sym (has_positions d p) ∙ h) in
        (e.0, indexed e.0 ∙ e.1, e.2);
  }

  -- no two held segments conflict
  pub indexed_apart : Proper d → (s t : Segment) → set.contains held s ≡ true
      → set.contains held t ≡ true → conflict s t ≡ false
  unfolding first_pair
  indexed_apart proper s t h i =
      none_conflict (all_segments d) proper.apart s t (in_segments d s (sym (indexed s) ∙ h)) (in_segments d t (sym (indexed t) ∙ i))
