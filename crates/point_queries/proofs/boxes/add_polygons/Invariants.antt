use Rattle.kit_words.proofs.Common.{take, flat_map}
use Rattle.ring_parts.specs.Common.{polygons_seen}
use Rattle.point_queries.specs.Common.{CoversRings, KeepsCovered}
use Rattle.point_queries.proofs.boxes.add_polygons.Given as goal

-- the rings of the polygons so far lie in the boxes, as do all that did before
abbrev pub invariant-loop-polygon : goal.invariant-loop-polygon
invariant-loop-polygon g l = record {
  covered : CoversRings l.boxes
      (flat_map (λ polygon. polygon) (polygons_seen (take l.polygon-index l.polygons)));
  keeps : KeepsCovered l.initial.boxes l.boxes;
}
