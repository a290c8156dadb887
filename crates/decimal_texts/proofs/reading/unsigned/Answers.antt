use Rattle.decimal_texts.proofs.Values.{front_digits}
use Rattle.decimal_texts.proofs.reading.unsigned.Goals as goal

pub behind_integer-requires : goal.behind_integer-requires
behind_integer-requires c = front_digits _ _ _ c.split_at.ensures.front c.digits_len.ensures.value
