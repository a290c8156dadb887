use Rattle.kit_words.proofs.Common.{◌≡◌, ◌+◌, drop, length}
use Rattle.ring_machine.specs.Common.{before}
use Rattle.ring_parts.proofs.rotation.count_before.Given as goal

abbrev pub invariant-loop-one : goal.invariant-loop-one
invariant-loop-one l = record {
  counted : l.count ≡ l.one-index;
  left : l.one-index + length (before l.pos (drop l.one-index l.ring)) ≡ length (before l.pos l.ring);
}
