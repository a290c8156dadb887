-- Each copied part of the made text is a copy of bytes of the file.
use Rattle.kit_words.proofs.Common.{◌≡◌, ℕ, ◌+◌, List, [], ◌∷◌, ◌++◌, length, take, Bool, true, false, refl, sym, ap}
use Rattle.kit_words.proofs.Common.{◌∙◌, append_assoc, length-append, arith, take_at, AllByRecursion, Ok, subst}
use Rattle.std.proofs.lemmas.List.{drop_at}
use Rattle.std.specs.List.{flat_map}
use Rattle.json_spans.specs.Common.{Node, items}
use Rattle.topo_outline.proofs.Steps.{step, same_ok}
use Rattle.geo_topology.specs.declared.object.GeoObject.{GeoObject}
use Rattle.geo_topology.specs.Pieces.{TextPiece, words, copied, rings, polygons}
use Rattle.geo_topology.specs.Features.{layer_pieces}
use Rattle.geo_topology.specs.Text.{TextSegment, made, copy, MadeOf, segments_text, copies_from, rings_of_piece, segment_of_piece, segments_from, comma_segment, ring_segments, text_segments, topology_made}
use Rattle.geo_topology.specs.Copies.{Lies, IsCopy}
use Rattle.geo_topology.proofs.Lying.{lies_items}
use Rattle.geo_topology.proofs.LyingPieces.{all_append, PieceLies, AllLie, layer_lies}

module _ (file : List ℕ) where
  abbrev SegmentLies : TextSegment → Type 0
  SegmentLies (made w) = Unit {0}
  SegmentLies (copy n) = Lies file n

  abbrev SegmentsLie : List TextSegment → Type 0
  SegmentsLie ss = AllByRecursion SegmentLies ss

  join : (ss ts : List TextSegment) → SegmentsLie ss → SegmentsLie ts → SegmentsLie (ss ++ ts)
  join = all_append SegmentLies

  segment_lies : (k : ℕ) (p : TextPiece) → PieceLies file p → SegmentLies (segment_of_piece k p)
  segment_lies k (words w) h = tt
  segment_lies k (copied n) h = h
  segment_lies k (rings n) h = tt
  segment_lies k (polygons n) h = tt

  from_lie : (k : ℕ) (ps : List TextPiece) → AllLie file ps → SegmentsLie (segments_from k ps)
  unfolding segments_from
  from_lie k [] h = tt
  from_lie k (p ∷ ps) h = (segment_lies k p h.0, from_lie (k + length (rings_of_piece p)) ps h.1)

  flat_lie : (ns : List Node) → AllByRecursion (Lies file) ns → AllByRecursion (Lies file) (flat_map items ns)
  flat_lie [] h = tt
  flat_lie (n ∷ ns) h = all_append (Lies file) (items n) (flat_map items ns) (lies_items file n h.0) (flat_lie ns h.1)

  rings_lie : (p : TextPiece) → PieceLies file p → AllByRecursion (Lies file) (rings_of_piece p)
  rings_lie (words w) h = tt
  rings_lie (copied n) h = tt
  rings_lie (rings n) h = lies_items file n h
  rings_lie (polygons n) h = flat_lie (items n) (lies_items file n h)

  all_rings_lie : (ps : List TextPiece) → AllLie file ps → AllByRecursion (Lies file) (flat_map rings_of_piece ps)
  all_rings_lie [] h = tt
  all_rings_lie (p ∷ ps) h = all_append (Lies file) (rings_of_piece p) (flat_map rings_of_piece ps) (rings_lie p h.0) (all_rings_lie ps h.1)

  comma_lies : (b : Bool) → SegmentsLie (comma_segment b)
  comma_lies true = tt
  comma_lies false = (tt, tt)

  arcs_lie : (b : Bool) (rs : List Node) → AllByRecursion (Lies file) rs → SegmentsLie (ring_segments b rs)
  unfolding ring_segments
  arcs_lie b [] h = tt
  arcs_lie b (r ∷ rs) h = join (comma_segment b) _ (comma_lies b) (h.0, arcs_lie false rs h.1)

  segments_lie : (ps : List TextPiece) → AllLie file ps → SegmentsLie (text_segments ps)
  segments_lie ps h = join (segments_from 0 ps) _ (from_lie 0 ps h) (tt, join (ring_segments true (flat_map rings_of_piece ps)) _ (arcs_lie true (flat_map rings_of_piece ps) (all_rings_lie ps h)) (tt, tt))

  -- ---- the parts

  one_copy : (before after : List ℕ) (n : Node) → Lies file n → IsCopy file (before ++ (n.bytes ++ after)) (record { made = length before; file = n.at_byte; len = length n.bytes })
  one_copy before after n h = ap (take (length n.bytes)) (drop_at before (n.bytes ++ after) (length before) refl) ∙ take_at n.bytes after (length n.bytes) refl ∙ sym h

  parts_copy : (before : List ℕ) (ss : List TextSegment) (text : List ℕ) (place : ℕ) → SegmentsLie ss → before ++ segments_text ss ≡ text → length before ≡ place → AllByRecursion (IsCopy file text) (copies_from place ss)
  unfolding copies_from
  parts_copy before [] text place h e at = tt
  parts_copy before (made w ∷ ss) text place h e at =
      parts_copy (before ++ w) ss text (place + length w) h.1 (append_assoc before w (segments_text ss) ∙ e) (omega (arith, length-append before w))
  parts_copy before (copy n ∷ ss) text place h e at = (
    subst (λ p. IsCopy file text (record { made = p; file = n.at_byte; len = length n.bytes })) at (subst (λ t. IsCopy file t (record { made = length before; file = n.at_byte; len = length n.bytes })) e (one_copy before (segments_text ss) n h.0)),
    parts_copy (before ++ n.bytes) ss text (place + length n.bytes) h.1 (append_assoc before n.bytes (segments_text ss) ∙ e) (omega (arith, length-append before n.bytes)),
  )

  pub copies : (o : GeoObject) (root : Node) (m : MadeOf) → Lies file root → topology_made o root ≡ Ok m → AllByRecursion (IsCopy file m.text) m.parts
  copies o root m h e =
      step (layer_pieces o root) _ e λ ps is last.
      subst (λ (m' : MadeOf). AllByRecursion (IsCopy file m'.text) m'.parts) (same_ok last)
      (parts_copy [] (text_segments ps) (segments_text (text_segments ps)) 0 (segments_lie ps (layer_lies file o root ps h is)) refl refl)
