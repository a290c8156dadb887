use Rattle.kit_words.proofs.Common.{arith}
use Rattle.grid_decimals.proofs.Powers.{power_pos}
use Rattle.grid_decimals.proofs.writing.push_units.Goals as goal

pub nonzero_div-units : goal.nonzero_div-units
nonzero_div-units g c = omega (arith, power_pos c.args.decimals, c.power_of_ten-one.ensures.value)

pub nonzero_rem-units : goal.nonzero_rem-units
nonzero_rem-units g c = omega (arith, power_pos c.args.decimals, c.power_of_ten-one.ensures.value)
