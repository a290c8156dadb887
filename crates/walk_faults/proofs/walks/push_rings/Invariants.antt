use Rattle.kit_words.proofs.Common.{◌≡◌, ◌++◌, map, take}
use Rattle.walk_faults.specs.Common.{walks_in_polygon, walk_seen}
use Rattle.ring_parts.specs.Common.{rings_seen}
use Rattle.walk_faults.proofs.walks.push_rings.Given as goal

-- the walks so far are appended
abbrev pub invariant-loop-ring : goal.invariant-loop-ring
invariant-loop-ring g l =
    map walk_seen l.walks.items ≡ map walk_seen l.fn.walks.items ++ walks_in_polygon l.feature l.polygon (rings_seen (take l.ring l.rings))
