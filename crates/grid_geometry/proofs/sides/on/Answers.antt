use Rattle.kit_words.proofs.Common.{ap, sym, ◌∙◌, ◌&&◌, pos}
use Rattle.std.specs.Ordering.{int_eq}
use Rattle.std.proofs.Math.Bool.{and-false}
use Rattle.grid_geometry.specs.Common.{orientation, is_on}
use Rattle.grid_geometry.proofs.sides.on.Goals as goal

pub returns-else-in_box : goal.returns-else-in_box
unfolding is_on
returns-else-in_box c =
    let s = c.s.inside in
    let aside = int_eq (orientation s.lo s.hi c.args.p) (pos 0) in
    let beside = ap (λ z. aside && z) (sym c.in_box.ensures ∙ c.if-in_box.false) ∙ and-false aside in
    c.if-in_box.false ∙ sym (ap (λ z. is_on c.args.p z.lo z.hi) (sym c.s.view_is) ∙ beside)
