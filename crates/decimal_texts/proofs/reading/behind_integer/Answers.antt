use Rattle.decimal_texts.proofs.Values.{front_digits}
use Rattle.decimal_texts.proofs.reading.behind_integer.Goals as goal

pub with_exponent-requires-clause-fraction : goal.with_exponent-requires-clause-fraction
with_exponent-requires-clause-fraction c = front_digits _ _ _ c.split_at.ensures.front c.digits_len.ensures.value
