use Rattle.kit_words.proofs.Common.{◌++◌, ◌∷◌, [], sym, ap, ◌∙◌, map, map-append}
use Rattle.layer_faces.specs.Order.{side_of}
use Rattle.layer_faces.proofs.Cutting.{numbers_more}
use Rattle.layer_faces.proofs.order.with_labels.Goals as goal

pub loop-side-preserved : goal.loop-side-preserved
loop-side-preserved g c =
    ap (map side_of) c.in_ok-push.ensures.items
    ∙ map-append side_of c.loop-side.order.items (_ ∷ [])
    ∙ ap (λ ns. ns ++ c.loop-side.side ∷ []) c.loop-side.invariant
    ∙ sym (numbers_more c.loop-side.side)
