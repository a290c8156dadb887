use Rattle.kit_words.proofs.Common.{◌≡◌, ◌∙◌, rules, to_z-of_z}
use Rattle.grid_decimals.specs.Common.{axis_of, units_of}
use Rattle.grid_decimals.proofs.Axes.{fits_both, large_scale, large_translate, no_scale, no_size, same_axis, size_is, some_size}
use Rattle.grid_decimals.proofs.axis.Axis.of.Goals as goal
use Rattle.grid_decimals.proofs.axis.Axis.of.Goals.{then-scale-eq0-via-then-scale-eq0, then-scale-eq0-via-else-scale-eq0+then-unsigned_abs-gt-MOST_SCALE, then-scale-eq0-via-else-scale-eq0+else-unsigned_abs-gt-MOST_SCALE+then-unsigned_abs-gt-MOST_TRANSLATE}
use mir.Syntax.{w128}
use mir.Val.{SFits}

pub returns-then-scale-eq0 : goal.returns-then-scale-eq0
returns-then-scale-eq0 c = λ p q h k.
    let a = axis_of c.args.decimals p q in
    let s : c.in_ok-scale.scale ≡ units_of c.args.decimals p = c.in_ok-scale.ensures p h in
    let t : c.in_ok-translate.translate ≡ units_of c.args.decimals q = c.in_ok-translate.ensures q k in
    let fits : SFits w128 c.in_ok-scale.scale = search rules in
    let fits_too : SFits w128 c.in_ok-translate.translate = search rules in
    elim c.then-scale-eq0.branch [
      | then-scale-eq0-via-then-scale-eq0 w ↦ no_scale a (no_size c.in_ok-scale.scale _ fits w.if-scale-eq0.true s)
      | then-scale-eq0-via-else-scale-eq0+then-unsigned_abs-gt-MOST_SCALE w ↦
          large_scale a w.unsigned_abs.result (size_is c.in_ok-scale.scale _ w.unsigned_abs.result fits w.unsigned_abs.ensures.value s)
          w.if-unsigned_abs-gt-MOST_SCALE.true
      | then-scale-eq0-via-else-scale-eq0+else-unsigned_abs-gt-MOST_SCALE+then-unsigned_abs-gt-MOST_TRANSLATE w ↦
          large_translate a w.unsigned_abs-else-unsigned_abs-gt-MOST_SCALE.result
          (size_is c.in_ok-translate.translate _ w.unsigned_abs-else-unsigned_abs-gt-MOST_SCALE.result fits_too
          w.unsigned_abs-else-unsigned_abs-gt-MOST_SCALE.ensures.value t)
          w.if-unsigned_abs-gt-MOST_TRANSLATE.true
    ]

pub returns : goal.returns
returns c = λ p q h k.
    let s : c.in_ok-scale.scale ≡ units_of c.args.decimals p = c.in_ok-scale.ensures p h in
    let t : c.in_ok-translate.translate ≡ units_of c.args.decimals q = c.in_ok-translate.ensures q k in
    let fits : SFits w128 c.in_ok-scale.scale = search rules in
    let fits_too : SFits w128 c.in_ok-translate.translate = search rules in (
      same_axis c.args.decimals p q _ _ (to_z-of_z w128 c.in_ok-scale.scale fits ∙ s) (to_z-of_z w128 c.in_ok-translate.translate fits_too ∙ t),
      fits_both (axis_of c.args.decimals p q) c.unsigned_abs.result c.unsigned_abs-else-unsigned_abs-gt-MOST_SCALE.result
          (size_is c.in_ok-scale.scale _ c.unsigned_abs.result fits c.unsigned_abs.ensures.value s)
          (size_is c.in_ok-translate.translate _ c.unsigned_abs-else-unsigned_abs-gt-MOST_SCALE.result fits_too
          c.unsigned_abs-else-unsigned_abs-gt-MOST_SCALE.ensures.value t)
          (some_size c.in_ok-scale.scale _ c.if-scale-eq0.false s)
          c.if-unsigned_abs-gt-MOST_SCALE.false c.if-unsigned_abs-gt-MOST_TRANSLATE.false,
    )
