use Rattle.kit_words.proofs.Common.{◌≡◌, ◌++◌, drop}
use Rattle.ring_parts.specs.Common.{off_ones}
use Rattle.ring_parts.proofs.joining.push_off.Given as goal

-- those so far and those that are left are all
abbrev pub invariant-loop-place : goal.invariant-loop-place
invariant-loop-place g l = l.rest.items ++ off_ones (drop l.place l.ring) (drop l.place l.common) ≡ l.fn.rest.items ++ off_ones l.ring l.common
