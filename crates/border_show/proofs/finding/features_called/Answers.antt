use Rattle.kit_words.proofs.Common.{Bool, List, ◌++◌, ◌∷◌, [], ap, ap₂, ◌∙◌, sym, take_all, filter_more, if◌then◌else◌}
use Rattle.std.specs.List.{filter}
use Rattle.std.specs.declared.alloc.Global.{Global}
use Rattle.map_features.specs.declared.shapes.Shape.{Shape}
use Rattle.border_show.specs.Found.{is_shape_called}
use Rattle.border_show.proofs.finding.features_called.Goals as goal

pub loop-shape-preserved : goal.loop-shape-preserved
loop-shape-preserved c =
    let called : Shape Global → Bool = is_shape_called c.args.id.now in
    c.in_ok-push_called.ensures
    ∙ (ap₂ (λ (fs : List (Shape Global)) (x : Shape Global). fs ++ (if called x then x ∷ [] else [])) c.loop-shape.invariant c.shape-item.is
    ∙ sym (filter_more called c.args.shapes.now c.loop-shape.shape-index c.shape-item.result c.loop-shape-test.true))

pub returns : goal.returns
returns c =
    c.loop-shape.invariant ∙ ap (filter (is_shape_called c.args.id.now)) (take_all c.loop-shape.shape-index c.args.shapes.now c.loop-shape-test.false)
