use Rattle.kit_words.proofs.Common.{◌-◌, arith}
use Rattle.decimal_texts.proofs.Powers.{power_pos}
use Rattle.decimal_texts.proofs.fine.is_rounded.Goals as goal

pub nonzero_rem-result : goal.nonzero_rem-result
nonzero_rem-result c = omega (arith, power_pos (24 - c.args.digits))
