use Rattle.kit_words.proofs.Common.{◌≡◌, ◌++◌, take}
use Rattle.ring_parts.specs.Common.{rings_seen}
use Rattle.layer_sides.specs.Standing.{standing_in}
use Rattle.layer_sides.proofs.standing.push_polygon.Given as goal

-- the segments of the rings so far
abbrev pub invariant-loop-ring : goal.invariant-loop-ring
invariant-loop-ring g l = l.found.items ≡ l.fn.found.items ++ standing_in l.polygon (rings_seen (take l.ring-index l.rings))
