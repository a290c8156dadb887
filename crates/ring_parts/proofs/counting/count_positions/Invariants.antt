use Rattle.kit_words.proofs.Common.{◌≡◌, length, take, sum_by}
use Rattle.ring_parts.specs.Common.{rings_seen}
use Rattle.ring_parts.proofs.counting.count_positions.Given as goal

-- those of the rings so far
abbrev pub invariant-loop-ring : goal.invariant-loop-ring
invariant-loop-ring g l = l.count ≡ sum_by length (rings_seen (take l.ring-index l.rings))
