use Rattle.kit_words.proofs.Common.{◌∙◌, ap, arith, flat_map, map}
use Rattle.grid_geometry.specs.Common.{edges}
use Rattle.topo_reader.specs.Common.{positions_of}
use Rattle.geo_text.proofs.Sides.{longest_of, parts_turn}
use Rattle.geo_text.proofs.longest.with_polygons.Goals as goal

pub loop-polygon-preserved : goal.loop-polygon-preserved
loop-polygon-preserved g c = record {
  value = parts_turn (λ polygon. map positions_of polygon.items) c.args.before _ _ c.args.polygons.now c.loop-polygon.polygon-index c.polygon-item.result (omega arith) c.polygon-item.is c.loop-polygon.invariant.value
      (c.with_rings-longest.ensures.value ∙ ap (λ z. longest_of c.loop-polygon.longest (flat_map edges (map positions_of z))) c.as_slice.ensures.value);
  bound = c.with_rings-longest.ensures.bound;
}
