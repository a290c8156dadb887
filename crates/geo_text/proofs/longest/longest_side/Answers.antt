use Rattle.kit_words.proofs.Common.{◌∙◌, ap, arith, flat_map, map}
use Rattle.grid_geometry.specs.Common.{edges}
use Rattle.topo_reader.specs.Common.{positions_of}
use Rattle.geo_text.proofs.Sides.{features_turn, longest_of}
use Rattle.geo_text.proofs.longest.longest_side.Goals as goal

pub loop-of_feature-preserved : goal.loop-of_feature-preserved
loop-of_feature-preserved g c = record {
  value = features_turn (λ polygon. map positions_of polygon.items) (λ polygons. polygons.items) 0 _ _ c.args.polygons.now c.loop-of_feature.of_feature-index c.of_feature-item.result (omega arith) c.of_feature-item.is c.loop-of_feature.invariant.value
      (c.with_polygons-longest.ensures.value ∙ ap (λ z. longest_of c.loop-of_feature.longest (flat_map edges (flat_map (λ polygon. map positions_of polygon.items) z))) c.as_slice.ensures.value);
  bound = c.with_polygons-longest.ensures.bound;
}
