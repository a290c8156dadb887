use Rattle.kit_words.proofs.Common.{◌≡◌, map, take}
use Rattle.map_frame.specs.Common.{polygon_numbers}
use Rattle.ring_parts.specs.Common.{polygons_seen}
use Rattle.feature_exchange.specs.Common.{ring_in}
use Rattle.feature_exchange.proofs.reading.feature_positions.Given as goal

-- the polygons so far
abbrev pub invariant-loop-rings : goal.invariant-loop-rings
invariant-loop-rings g l =
    polygons_seen l.found.items
    ≡ map (map (ring_in l.tables.vertices l.tables.borders)) (map polygon_numbers (take l.rings-index l.polygons))
