use Rattle.kit_words.proofs.Common.{◌+◌, ap, sym, ◌∙◌, drop, drop_all, map, next_drop, refl}
use Rattle.std.specs.Prelude.{flat_map}
use Rattle.topo_outline.specs.Common.{view_item}
use Rattle.map_features.specs.Shapes.{description_of, heads_in}
use Rattle.map_features.proofs.ShapeLemmas.{found_all, found_more, found_with}
use Rattle.map_features.proofs.shapes.push_leaves.Goals as goal

pub loop-item-preserved : goal.loop-item-preserved
loop-item-preserved g c =
    let all = map (λ p. p.items) c.args.polygons.now in
    let old = c.loop-item.shapes.items in
    let others = flat_map heads_in (map view_item (drop (c.loop-item.item-index + 1) c.args.items.now)) in
    found_more description_of all old _ (heads_in (view_item c.item-item.result)) others c.in_ok-push_leaf.ensures
    ∙ (ap (λ xs. found_with description_of all old (flat_map heads_in (map view_item xs)))
    (sym (next_drop c.args.items.now c.loop-item.item-index c.item-item.result c.loop-item-test.true c.item-item.is)) ∙ c.loop-item.invariant)

pub returns : goal.returns
returns g c =
    let all = map (λ p. p.items) c.args.polygons.now in
    sym (found_all description_of all c.loop-item.shapes.items)
    ∙ (ap (λ xs. found_with description_of all c.loop-item.shapes.items (flat_map heads_in (map view_item xs)))
    (sym (drop_all c.loop-item.item-index c.args.items.now c.loop-item-test.false)) ∙ c.loop-item.invariant)
