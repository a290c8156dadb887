use Rattle.kit_words.proofs.Common.{◌≡◌, map, take}
use Rattle.ring_parts.specs.Common.{rings_seen}
use Rattle.feature_exchange.specs.Common.{ring_in}
use Rattle.feature_exchange.proofs.reading.polygon_positions.Given as goal

-- the rings so far
abbrev pub invariant-loop-r : goal.invariant-loop-r
invariant-loop-r g l = rings_seen l.polygon.items ≡ map (ring_in l.tables.vertices l.tables.borders) (take l.r-index l.rings)
