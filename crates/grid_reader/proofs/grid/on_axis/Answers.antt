use Rattle.kit_words.proofs.Common.{◌≡◌, ◌≤◌, ◌^◌, ap₂, ◌∙◌, arith, ℤ, pos, ◌*ℤ◌, unsigned_abs, to_z-of_z}
use Rattle.decimal_texts.specs.Common.{rounded}
use Rattle.decimal_texts.proofs.Common.{small_fits, scale_fits}
use Rattle.grid_reader.proofs.Reach.{power_fits}
use Rattle.grid_reader.proofs.Scaled.{axis_within, product_is}
use Rattle.grid_reader.proofs.grid.on_axis.Goals as goal
use mir.Syntax.{w64, w128}
use mir.Val.{SFits}

pub overflow_cast-scale : goal.overflow_cast-scale
overflow_cast-scale c = small_fits (pos c.pow-scale.result) (scale_fits c.args.finer c.pow-scale.result c.requires.finer c.pow-scale.ensures)

pub rounded-requires-clause-units : goal.rounded-requires-clause-units
rounded-requires-clause-units c = rw (to_z-of_z w128 c.args.units c.ranges.units) (omega (arith, power_fits c.args.finer))

pub overflow_mul-result : goal.overflow_mul-result
overflow_mul-result c =
    let fits : SFits w128 c.args.units = c.ranges.units in
    let is : c.rounded.result ≡ rounded c.args.digits c.args.units = simp to_z-of_z at c.rounded.ensures.value in
    rw (product_is c.rounded.result c.pow-scale.result c.rounded.ensures.bound (scale_fits c.args.finer c.pow-scale.result c.requires.finer c.pow-scale.ensures))
    (small_fits _ (axis_within c.args.digits c.args.finer c.pow-scale.result c.args.units c.rounded.result c.requires.digits c.requires.finer c.requires.near is c.pow-scale.ensures))

pub returns-clause-value : goal.returns-clause-value
returns-clause-value c =
    let fits : SFits w128 c.args.units = c.ranges.units in
    let is : c.rounded.result ≡ rounded c.args.digits c.args.units = simp to_z-of_z at c.rounded.ensures.value in
    rw (product_is c.rounded.result c.pow-scale.result c.rounded.ensures.bound (scale_fits c.args.finer c.pow-scale.result c.requires.finer c.pow-scale.ensures))
    (to_z-of_z w64 (c.rounded.result *ℤ pos c.pow-scale.result) (small_fits _ (axis_within c.args.digits c.args.finer c.pow-scale.result c.args.units c.rounded.result c.requires.digits c.requires.finer c.requires.near is c.pow-scale.ensures))
    ∙ ap₂ (λ (r : ℤ) s. r *ℤ pos s) is c.pow-scale.ensures)

pub returns-clause-bound : goal.returns-clause-bound
returns-clause-bound c =
    let fits : SFits w128 c.args.units = c.ranges.units in
    let is : c.rounded.result ≡ rounded c.args.digits c.args.units = simp to_z-of_z at c.rounded.ensures.value in
    let low : unsigned_abs (c.rounded.result *ℤ pos c.pow-scale.result) ≤ 10 ^ 12 = axis_within c.args.digits c.args.finer c.pow-scale.result c.args.units c.rounded.result c.requires.digits c.requires.finer c.requires.near is c.pow-scale.ensures in
    rw (product_is c.rounded.result c.pow-scale.result c.rounded.ensures.bound (scale_fits c.args.finer c.pow-scale.result c.requires.finer c.pow-scale.ensures), to_z-of_z w64 (c.rounded.result *ℤ pos c.pow-scale.result) (small_fits _ low)) low
