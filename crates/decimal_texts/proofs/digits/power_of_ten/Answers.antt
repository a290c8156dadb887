use Rattle.kit_words.proofs.Common.{arith}
use Rattle.decimal_texts.proofs.Powers.{power_mono}
use Rattle.decimal_texts.proofs.digits.power_of_ten.Goals as goal

pub pow-requires : goal.pow-requires
pow-requires c = omega (arith, power_mono c.args.exponent 24 c.requires)

pub returns-clause-bound : goal.returns-clause-bound
returns-clause-bound c = omega (arith, c.pow.ensures, power_mono c.args.exponent 24 c.requires)
