use Rattle.kit_words.proofs.Common.{arith}
use Rattle.grid_decimals.proofs.Powers.{power_mono}
use Rattle.grid_decimals.proofs.number.power_of_ten.Goals as goal

pub pow-requires : goal.pow-requires
pow-requires c = omega (arith, power_mono c.args.exponent 36 c.requires)

pub returns-clause-bound : goal.returns-clause-bound
returns-clause-bound c = omega (arith, c.pow.ensures, power_mono c.args.exponent 36 c.requires)
