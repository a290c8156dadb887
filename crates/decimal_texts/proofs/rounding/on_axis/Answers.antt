use Rattle.kit_words.proofs.Common.{◌≡◌, ◌≤◌, ◌^◌, ap, ap₂, ◌∙◌, ℤ, pos, ◌*ℤ◌, to_z-of_z}
use Rattle.decimal_texts.specs.Fine.{rounded}
use Rattle.decimal_texts.proofs.RoundedUnits.{scale_fits}
use Rattle.decimal_texts.proofs.Fits.{scaled_fits, product_is, product_fits}
use Rattle.decimal_texts.proofs.rounding.on_axis.Goals as goal
use mir.Syntax.{w128}

pub rounded-requires-clause-units : goal.rounded-requires-clause-units
rounded-requires-clause-units c =
    rw (to_z-of_z w128 c.args.units c.ranges.units)
    (scaled_fits c.args.grid.digits c.args.grid.finer _ c.args.grid.few_digits c.args.grid.little_finer c.requires)

pub overflow_mul-result : goal.overflow_mul-result
overflow_mul-result c =
    let low : c.pow-scale.result ≤ 10 ^ 12 =
    scale_fits c.args.grid.finer c.pow-scale.result c.args.grid.little_finer c.pow-scale.ensures in
    rw (product_is c.rounded.result c.from.result c.pow-scale.result c.rounded.ensures.bound low c.from.ensures)
    (product_fits c.rounded.result c.pow-scale.result c.rounded.ensures.bound low)

pub returns : goal.returns
returns c =
    let low : c.pow-scale.result ≤ 10 ^ 12 =
    scale_fits c.args.grid.finer c.pow-scale.result c.args.grid.little_finer c.pow-scale.ensures in
    let is : c.rounded.result ≡ rounded c.args.grid.digits c.args.units =
    c.rounded.ensures.value ∙ ap (λ z. rounded c.args.grid.digits z) (to_z-of_z w128 c.args.units c.ranges.units) in
    rw (product_is c.rounded.result c.from.result c.pow-scale.result c.rounded.ensures.bound low c.from.ensures)
    (to_z-of_z w128 (c.rounded.result *ℤ pos c.pow-scale.result)
    (product_fits c.rounded.result c.pow-scale.result c.rounded.ensures.bound low)
    ∙ ap₂ (λ (r : ℤ) s. r *ℤ pos s) is c.pow-scale.ensures)
