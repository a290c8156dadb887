use Rattle.kit_words.proofs.Common.{◌≡◌, ◌+◌, drop}
use Rattle.decimal_texts.specs.Common.{overwritten}
use Rattle.decimal_texts.proofs.dropped.put.Given as goal

abbrev pub invariant-loop-i : goal.invariant-loop-i
invariant-loop-i l = overwritten (l.place + l.i) (drop l.i l.bytes) l.text ≡ overwritten l.place l.bytes l.fn.text
