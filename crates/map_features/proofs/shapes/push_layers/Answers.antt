use Rattle.kit_words.proofs.Common.{◌+◌, ◌++◌, ap, sym, ◌∙◌, drop, drop_all, map, next_drop}
use Rattle.std.specs.Prelude.{flat_map}
use Rattle.topo_outline.specs.Common.{view_item, view_layer}
use Rattle.map_features.specs.Shapes.{description_of, heads_in, heads_of}
use Rattle.map_features.proofs.ShapeLemmas.{found_all, found_more, found_with}
use Rattle.map_features.proofs.shapes.push_layers.Goals as goal

pub loop-layer-preserved : goal.loop-layer-preserved
loop-layer-preserved g c =
    let all = map (λ p. p.items) c.args.polygons.now in
    let old = c.loop-layer.shapes.items in
    let others = heads_of (map view_layer (drop (c.loop-layer.layer-index + 1) c.args.layers.now)) in
    found_more description_of all old _ (flat_map heads_in (map view_item c.as_slice.result.now)) others c.in_ok-push_leaves.ensures
    ∙ (ap (λ xs. found_with description_of all old (flat_map heads_in (map view_item xs) ++ others)) c.as_slice.ensures.value
    ∙ (ap (λ xs. found_with description_of all old (heads_of (map view_layer xs)))
    (sym (next_drop c.args.layers.now c.loop-layer.layer-index c.layer-item.result c.loop-layer-test.true c.layer-item.is)) ∙ c.loop-layer.invariant))

pub returns : goal.returns
returns g c =
    let all = map (λ p. p.items) c.args.polygons.now in
    sym (found_all description_of all c.loop-layer.shapes.items)
    ∙ (ap (λ xs. found_with description_of all c.loop-layer.shapes.items (heads_of (map view_layer xs)))
    (sym (drop_all c.loop-layer.layer-index c.args.layers.now c.loop-layer-test.false)) ∙ c.loop-layer.invariant)
