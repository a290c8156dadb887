use Rattle.kit_words.proofs.Common.{◌≡◌, true, take, list_all}
use Rattle.ring_machine.specs.Common.{is_ring}
use Rattle.ring_parts.specs.Common.{rings_seen}
use Rattle.walk_mending.proofs.simple.are_rings.Given as goal

-- all so far
abbrev pub invariant-loop-ring : goal.invariant-loop-ring
invariant-loop-ring g l = list_all is_ring (rings_seen (take l.ring-index l.rings)) ≡ true
