use Rattle.kit_words.proofs.Common.{◌≡◌, ◌+◌, drop, not, prefix_len}
use Rattle.ring_parts.proofs.joining.count_off.Given as goal

abbrev pub invariant-loop-one : goal.invariant-loop-one
invariant-loop-one l = record {
  counted : l.count ≡ l.one-index;
  left : l.one-index + prefix_len not (drop l.one-index l.common) ≡ prefix_len not l.common;
}
