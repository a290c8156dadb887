use Rattle.kit_words.proofs.Common.{◌≡◌, ◌+◌, drop, prefix_len}
use Rattle.json_spans.specs.Common.{is_zero}
use Rattle.decimal_texts.proofs.shifted.without_zeros.Given as goal

abbrev pub invariant-loop-i : goal.invariant-loop-i
invariant-loop-i l = l.i + prefix_len is_zero (drop l.i l.digits) ≡ prefix_len is_zero l.digits
