use Rattle.script_lines.proofs.NumberLemmas.{front_small, word_spaced}
use Rattle.script_lines.proofs.numbers.unsigned_number.Goals as goal

pub returns-then-ends_word-clause-value : goal.returns-then-ends_word-clause-value
returns-then-ends_word-clause-value c =
    word_spaced c.args.bytes.now c.split_at.result.0.now c.split_at.result.1.now c.digits-len.result.0 c.digits-len.result.1 c.split_at.ensures.front c.split_at.ensures.back
    c.digits-len.ensures.are c.digits-len.ensures.value c.digits-len.ensures.bound.0 c.digits-len.ensures.bound.1 (c.without_needless_zero.ensures c.if-without_needless_zero.true) (c.ends_word.ensures c.if-ends_word.true)

pub returns-then-ends_word-clause-small : goal.returns-then-ends_word-clause-small
returns-then-ends_word-clause-small c =
    front_small c.args.bytes.now c.digits-len.result.0 c.digits-len.result.1 18 c.digits-len.ensures.are c.digits-len.ensures.value c.digits-len.ensures.bound.0 c.digits-len.ensures.bound.1
