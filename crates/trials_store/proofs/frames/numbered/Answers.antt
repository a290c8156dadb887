use Rattle.kit_words.proofs.Common.{◌++◌, ◌∷◌, [], ◌∙◌, sym, ap, ap₂, map, length, map_push, mapped_more, take_all}
use Rattle.trials_store.proofs.frames.numbered.Goals as goal

pub loop-polygons-preserved : goal.loop-polygons-preserved
loop-polygons-preserved c =
    ap (map (λ f. length f.items)) c.in_ok-push.ensures.items
    ∙ map_push (λ f. length f.items) c.loop-polygons.numbers.items c.in_ok-numbered_polygons.field-0
    ∙ ap₂ (λ y z. y ++ z ∷ []) c.loop-polygons.invariant (c.in_ok-numbered_polygons.ensures ∙ ap length c.as_slice.ensures.value)
    ∙ sym (mapped_more (λ f. length f.items) c.args.features.now c.loop-polygons.polygons-index c.polygons-item.result c.loop-polygons-test.true c.polygons-item.is)

pub returns : goal.returns
returns c =
    c.loop-polygons.invariant
    ∙ ap (map (λ f. length f.items)) (take_all c.loop-polygons.polygons-index c.args.features.now c.loop-polygons-test.false)
