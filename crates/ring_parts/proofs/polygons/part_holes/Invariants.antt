use Rattle.kit_words.proofs.Common.{◌≡◌, ◌++◌, take, filter, not}
use Rattle.ring_machine.specs.Common.{goes_first}
use Rattle.ring_parts.specs.Common.{rings_seen}
use Rattle.ring_parts.proofs.polygons.part_holes.Given as goal

-- of the holes so far
abbrev pub invariant-loop-hole : goal.invariant-loop-hole
invariant-loop-hole g l = record {
  with_first : rings_seen l.ones.items ≡ rings_seen l.fn.ones.items ++ filter (goes_first l.first.ring.now) (rings_seen (take l.hole-index l.holes));
  others : rings_seen l.others.items ≡ rings_seen l.fn.others.items ++ filter (λ h. not (goes_first l.first.ring.now h)) (rings_seen (take l.hole-index l.holes));
}
