use Rattle.kit_words.proofs.Common.{◌++◌, ◌∙◌, sym, ap, take, append_assoc, flat_map, append-nil, take_all}
use Rattle.map_frame.specs.Common.{polygon_numbers}
use Rattle.feature_exchange.proofs.KeyLists.{flat_more}
use Rattle.feature_exchange.proofs.numbers.push_polygons.Goals as goal

pub loop-rings-init : goal.loop-rings-init
loop-rings-init g c = sym (append-nil c.args.numbers.now.items)

pub loop-rings-preserved : goal.loop-rings-preserved
loop-rings-preserved g c =
    let before = c.args.numbers.now.items in
    let some = flat_map polygon_numbers (take c.loop-rings.rings-index c.args.polygons.now) in
    c.in_ok-extend_from_slice.ensures.items
    ∙ ap (λ z. z ++ c.as_slice.result.now) c.loop-rings.invariant
    ∙ append_assoc before some c.as_slice.result.now
    ∙ ap (λ z. before ++ (some ++ z)) c.as_slice.ensures.value
    ∙ ap (λ z. before ++ (some ++ polygon_numbers z)) c.rings-item.is
    ∙ ap (λ z. before ++ z) (sym (flat_more polygon_numbers c.args.polygons.now c.loop-rings.rings-index c.rings-item.result c.loop-rings-test.true))

pub returns : goal.returns
returns g c =
    c.loop-rings.invariant
    ∙ ap (λ z. c.args.numbers.now.items ++ flat_map polygon_numbers z) (take_all c.loop-rings.rings-index c.args.polygons.now c.loop-rings-test.false)
