-- How many rings have a segment, by their numbers.
use Rattle.kit_words.proofs.Common.{ap₂, ◌+◌, ◌≡◌, ◌≤◌, ◌↔◌, ℕ, true, sym, ap, ◌∙◌, List, [], length, Some, unwrap_or}
use Rattle.kit_words.proofs.Common.{list_any, filter}
use Rattle.std.specs.FinMap as table
use Rattle.grid_geometry.specs.Common.{segment, Position}
use Rattle.grid_geometry.specs.Ring.{edges as ring_edges}
use Rattle.ring_machine.specs.Common.{canonical, rings, size, ins}
use Rattle.ring_machine.proofs.Common.{is_of, In, any_in, in_any, canonical_turns, any_there}
use Rattle.arc_tables.specs.Common.{Edge, is_seg, times}
use Rattle.vertex_index.specs.Common.{place}
use Rattle.arc_tables.proofs.Common.{ends_of}
use Rattle.feature_exchange.specs.Common.{Stored, positions_along, edges_under, ring_under, stored_document, IsWhole}
use Rattle.ring_store.proofs.Common.{place_is, place_kept, IsKept, one_key, filter-mapped, laid, edges_round, edge_ends}
use Rattle.ring_store.proofs.Common.{times_edge, edge_times, ends_is_seg}
use Rattle.feature_exchange.proofs.Common.{document_ring, begin_kept, framed, ring_under_is, rings_are}
use Rattle.arc_store.proofs.Insertions.{size_ins, has_segment, has_segment_by, any_mapped}
use Rattle.arc_store.proofs.KeyWays.{seg_same}
use Rattle.arc_store.proofs.RingEdits.{edges_turned}

-- a segment is among the edges where it stands there once or more
pub any_times : (x y : ℕ) (es : List Edge) → (list_any (is_seg x y) es ≡ true) ↔ (1 ≤ times x y es)
any_times x y es = (
  λ h. let e = any_in (is_seg x y) es h in edge_times x y es e.0 e.1 (ends_of x y e.0 e.2),
  λ h. let e = times_edge x y es h in in_any (is_seg x y) e.0 es e.1 (ends_is_seg x y e.0 e.2),
)

-- the numbers of the rings that have the segment of x and y
abbrev pub users_of : Stored → ℕ → ℕ → List ℕ
users_of s x y = filter (λ r. list_any (is_seg x y) (edges_under s.rings r)) (rings s.frame)

module _ (s : Stored) (w : IsWhole s) (x y : ℕ) (x_kept : IsKept s.places x) (y_kept : IsKept s.places y) where
  -- a ring has the segment of two positions as its edges have that of their keys
  pub ring_has : (r : ℕ) (es : List Edge) → table.get s.rings r ≡ Some es
      → has_segment (segment (place s.places x) (place s.places y)) (ring_under s r) ≡ list_any (is_seg x y) es
  ring_has r es e =
      let t = segment (place s.places x) (place s.places y) in
      let ps = positions_along s.places es in
      has_segment_by t (ring_under s r)
      ∙ ap (λ z. list_any (is_of t) (ring_edges z)) (ring_under_is s w r es e)
      ∙ sym (edges_turned (is_of t) ps (canonical ps) (canonical_turns ps))
      ∙ ap (list_any (is_of t)) (edges_round (place s.places) es (w.round r es e))
      ∙ any_mapped (laid (place s.places)) (is_of t) es
      ∙ any_there (λ f. is_of t (laid (place s.places) f)) (is_seg x y) es (λ f i.
      let ends = edge_ends es (w.round r es e) f i in
      let from = begin_kept s w r es e f.0 ends.0 in
      let to = begin_kept s w r es e f.1 ends.1 in
      seg_same (place s.places) x y f (one_key s.places w.distinct f.0 x from x_kept) (one_key s.places w.distinct f.0 y from y_kept)
      (one_key s.places w.distinct f.1 x to x_kept) (one_key s.places w.distinct f.1 y to y_kept))

  pub framed_has : (r : ℕ) → In r (rings s.frame)
      → has_segment (segment (place s.places x) (place s.places y)) (ring_under s r) ≡ list_any (is_seg x y) (edges_under s.rings r)
  framed_has r i =
      let e = framed s w r i in
      ring_has r e.0 e.1 ∙ ap (λ o. list_any (is_seg x y) (unwrap_or o [])) (sym e.1)

  -- as many rings of the document have the segment as numbers
  pub users_count :
      length (filter (has_segment (segment (place s.places x) (place s.places y))) (rings (stored_document s)))
      ≡ length (users_of s x y)
  users_count =
      ap (λ z. length (filter (has_segment (segment (place s.places x) (place s.places y))) z)) (rings_are s w)
      ∙ filter-mapped (ring_under s) (has_segment (segment (place s.places x) (place s.places y))) (λ r. list_any (is_seg x y) (edges_under s.rings r)) (rings s.frame) framed_has

-- the size after an insertion between two vertices: one more for each ring that has their segment
pub size_over : (s : Stored) (w : IsWhole s) (j k : ℕ) (a b q : Position)
    → table.get s.places j ≡ Some a → table.get s.places k ≡ Some b
    → size (ins (stored_document s) a b q) ≡ size (stored_document s) + length (users_of s j k)
size_over s w j k a b q e f =
    size_ins (stored_document s) a b q (document_ring s w)
    ∙ ap (λ z. size (stored_document s) + z)
    (ap₂ (λ y z. length (filter (has_segment (segment y z)) (rings (stored_document s)))) (sym (place_is s.places j a e)) (sym (place_is s.places k b f))
    ∙ users_count s w j k (place_kept s.places j a e) (place_kept s.places k b f))
