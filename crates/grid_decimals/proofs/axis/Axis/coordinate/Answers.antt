use Rattle.kit_words.proofs.Common.{◌≡◌, arith, ints}
use Rattle.grid_decimals.specs.Common.{view_axis}
use Rattle.grid_decimals.proofs.Axes.{coordinate_is, coordinate_within}
use Rattle.grid_decimals.proofs.axis.Axis.coordinate.Goals as goal

pub returns-clause-value : goal.returns-clause-value
returns-clause-value c =
    let a = c.args.self.now in
    let same : c.from.result ≡ c.args.number = omega (arith, ints) in
    coordinate_is (view_axis a) c.args.number c.from.result same c.requires a.scale_range a.translate_range

pub returns-clause-bound : goal.returns-clause-bound
returns-clause-bound c =
    let a = c.args.self.now in
    let same : c.from.result ≡ c.args.number = omega (arith, ints) in
    rw (coordinate_is (view_axis a) c.args.number c.from.result same c.requires a.scale_range a.translate_range)
    (coordinate_within (view_axis a) c.args.number c.requires a.scale_range a.translate_range)
