use Rattle.kit_words.proofs.Common.{◌-◌, ◌∙◌, arith}
use Rattle.decimal_texts.proofs.RoundedUnits.{rounded_within, small_units, twice_is, doubled_fits, sum_fits, quotient_is, cast_fits, cast_is}
use Rattle.decimal_texts.proofs.Powers.{power_pos}
use Rattle.decimal_texts.proofs.fine.rounded.Goals as goal

pub overflow_mul-units : goal.overflow_mul-units
overflow_mul-units c = doubled_fits c.args.units (small_units c.args.digits c.args.units c.requires.units)

pub overflow_add-units : goal.overflow_add-units
overflow_add-units c =
    sum_fits c.args.units c.power_of_ten-unit.result (small_units c.args.digits c.args.units c.requires.units) c.power_of_ten-unit.ensures.bound

pub overflow_cast-result : goal.overflow_cast-result
overflow_cast-result c =
    let is = quotient_is c.args.digits c.power_of_ten-unit.result c.args.units c.div_euclid.result c.power_of_ten-unit.ensures.value c.power_of_ten-unit.ensures.bound c.requires.units c.div_euclid.ensures in
    cast_fits c.div_euclid.result (rw is (rounded_within c.args.digits c.args.units c.requires.digits c.requires.units))

pub returns-clause-value : goal.returns-clause-value
returns-clause-value c =
    let is = quotient_is c.args.digits c.power_of_ten-unit.result c.args.units c.div_euclid.result c.power_of_ten-unit.ensures.value c.power_of_ten-unit.ensures.bound c.requires.units c.div_euclid.ensures in
    cast_is c.div_euclid.result (rw is (rounded_within c.args.digits c.args.units c.requires.digits c.requires.units)) ∙ is

pub returns-clause-bound : goal.returns-clause-bound
returns-clause-bound c =
    let is = quotient_is c.args.digits c.power_of_ten-unit.result c.args.units c.div_euclid.result c.power_of_ten-unit.ensures.value c.power_of_ten-unit.ensures.bound c.requires.units c.div_euclid.ensures in
    let low = rounded_within c.args.digits c.args.units c.requires.digits c.requires.units in
    rw (cast_is c.div_euclid.result (rw is low), is) low

pub div_euclid-requires-clause-nonzero : goal.div_euclid-requires-clause-nonzero
div_euclid-requires-clause-nonzero c =
    rw (twice_is c.power_of_ten-unit.result c.power_of_ten-unit.ensures.bound) (omega (arith, power_pos (24 - c.args.digits), c.power_of_ten-unit.ensures.value))
