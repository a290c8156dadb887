use Rattle.kit_words.proofs.Common.{◌∙◌, ap, arith, drop_all, length, map, option_map}
use Rattle.topo_outline.specs.Common.{leaves_in, view_item, view_layer}
use Rattle.geo_text.specs.Found.{points_of}
use Rattle.geo_text.proofs.Counted.{asked_end, asked_turn}
use Rattle.geo_text.proofs.layers.asked_layers.Goals as goal

pub loop-layer-preserved : goal.loop-layer-preserved
loop-layer-preserved g c = record {
  found = asked_turn (option_map (λ t. t.now) c.args.name) view_layer c.loop-layer.leaves c.loop-layer.points c.leaf_count.result c.point_count.result c.args.layers.now c.loop-layer.layer-index c.layer-item.result c.in_ok-is_asked.is_asked _ _ _
      (omega arith) c.layer-item.is c.in_ok-is_asked.ensures
      (c.leaf_count.ensures.value ∙ ap (λ z. length (leaves_in (map view_item z))) c.as_slice.ensures.value)
      (c.point_count.ensures.value ∙ ap (λ z. points_of (map view_item z)) c.as_slice-in-loop-layer.ensures.value)
      c.in_ok-push_if.ensures c.loop-layer.invariant.found;
  leaves = omega arith;
  points = omega arith;
}

pub returns : goal.returns
returns g c =
    let i = c.loop-layer.layer-index in
    asked_end (option_map (λ t. t.now) c.args.name) view_layer c.loop-layer.leaves c.loop-layer.points c.args.layers.now i _ _
    (drop_all i c.args.layers.now c.loop-layer-test.false) c.loop-layer.invariant.found
