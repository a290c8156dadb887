use Rattle.kit_words.proofs.Common.{◌≡◌, drop}
use Rattle.ring_machine.specs.Common.{is_distinct}
use Rattle.ring_parts.proofs.paths.has_twice.Given as goal

-- none so far stands there again
abbrev pub invariant-loop-place : goal.invariant-loop-place
invariant-loop-place l = is_distinct (drop l.place l.positions) ≡ is_distinct l.positions
