use Rattle.kit_words.proofs.Common.{map, take}
use Rattle.map_frame.specs.Common.{polygon_numbers}
use Rattle.ring_parts.specs.Common.{polygons_seen}
use Rattle.feature_exchange.proofs.LaidSoFar.{SoFar}
use Rattle.feature_exchange.proofs.laying.lay_polygons.Given as goal

-- the polygons so far
abbrev pub invariant-loop-polygon : goal.invariant-loop-polygon
invariant-loop-polygon g l =
    SoFar (λ p. p) map
    l.fn.tables l.fn.laid.items l.tables l.laid.items (map polygon_numbers l.lists.items) (polygons_seen (take l.polygon-index l.polygons))
