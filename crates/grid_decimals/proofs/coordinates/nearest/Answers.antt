use Rattle.kit_words.proofs.Common.{◌∙◌, arith, rules, to_z-of_z}
use Rattle.grid_decimals.proofs.Nearest.{quotient_is, twice_is}
use Rattle.grid_decimals.proofs.Powers.{power_pos}
use Rattle.grid_decimals.proofs.coordinates.nearest.Goals as goal
use mir.Syntax.{w128}
use mir.Val.{SFits}

pub div_euclid-requires-clause-nonzero : goal.div_euclid-requires-clause-nonzero
div_euclid-requires-clause-nonzero c =
    rw (twice_is c.power_of_ten-unit.result c.power_of_ten-unit.ensures.bound) (omega (arith, power_pos c.args.fewer, c.power_of_ten-unit.ensures.value))

pub returns : goal.returns
returns c = λ k.
    let fits : SFits w128 c.div_euclid.result = search rules in
    to_z-of_z w128 c.div_euclid.result fits
    ∙ quotient_is c.args.fewer c.power_of_ten-unit.result c.args.units c.div_euclid.result c.power_of_ten-unit.ensures.value c.power_of_ten-unit.ensures.bound c.requires.near c.div_euclid.ensures k
