use Rattle.kit_words.proofs.Common.{◌≡◌, ◌+◌, ◌-◌, ◌++◌, List, OnOk, ap, arith, rules, subst, to_z-of_z, ℕ, ◌∙◌}
use Rattle.grid_decimals.specs.Common.{coordinate_of, coordinate_text, nearest, number_text, view_axis}
use Rattle.grid_decimals.proofs.Axes.{coordinate_written, stays}
use Rattle.grid_decimals.proofs.coordinates.Coordinates.push.Goals as goal
use mir.Syntax.{w64, w128}
use mir.Val.{SFits, of_z, to_z}

pub returns : goal.returns
returns g c =
    let d = c.args.self.now.grid.decimals in
    let k = c.args.self.now.decimals in
    let a = view_axis c.args.axis in
    let fewer = c.args.self.now.grid.decimals - c.args.self.now.decimals in
    let whole : k + fewer ≡ d = omega arith in
    let fits : SFits w128 c.nearest-units.result = search rules in
    let at : c.coordinate.result ≡ coordinate_of a c.args.number =
    c.coordinate.ensures.value ∙ ap (coordinate_of a) (to_z-of_z w64 c.args.number c.ranges.number) in
    let text : number_text k (to_z w128 (of_z w128 c.nearest-units.result)) ≡ coordinate_text d k a c.args.number =
    ap (number_text k) (to_z-of_z w128 c.nearest-units.result fits)
    ∙ coordinate_written d k fewer a c.args.number c.coordinate.result c.nearest-units.result whole at
    (λ j. c.nearest-units.ensures j ∙ ap (nearest (j + fewer) j) (stays c.coordinate.result c.coordinate.ensures.bound)) in
    subst (λ (t : List ℕ). OnOk c.push_number.result (c.push_number.new.text.items ≡ c.args.text.now.items ++ t)) text c.push_number.ensures
