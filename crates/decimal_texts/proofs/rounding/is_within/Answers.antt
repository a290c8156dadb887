use Rattle.kit_words.proofs.Common.{arith}
use Rattle.decimal_texts.proofs.Fits.{power_fits}
use Rattle.decimal_texts.proofs.rounding.is_within.Goals as goal

pub pow-requires : goal.pow-requires
pow-requires c = omega (arith, power_fits c.args.grid.digits c.args.grid.finer)
