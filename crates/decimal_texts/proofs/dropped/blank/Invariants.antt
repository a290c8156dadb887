use Rattle.kit_words.proofs.Common.{◌≡◌, ◌-◌, replicate}
use Rattle.decimal_texts.specs.Common.{overwritten}
use Rattle.decimal_texts.proofs.dropped.blank.Given as goal

abbrev pub invariant-loop-place : goal.invariant-loop-place
invariant-loop-place l = overwritten l.place (replicate (l.to - l.place) 32) l.text ≡ overwritten l.from (replicate (l.to - l.from) 32) l.fn.text
