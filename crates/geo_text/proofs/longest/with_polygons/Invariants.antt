use Rattle.kit_words.proofs.Common.{◌≡◌, ◌≤◌, ◌*◌, ◌^◌, ◌++◌, ◌∷◌, [], drop, flat_map, fold, map, max, take}
use Rattle.grid_geometry.specs.Common.{edges, links}
use Rattle.topo_reader.specs.Common.{positions_of}
use Rattle.geo_text.specs.Text.{side}
use Rattle.geo_text.proofs.longest.with_polygons.Given as goal

abbrev pub invariant-loop-polygon : goal.invariant-loop-polygon
invariant-loop-polygon g l = record {
  value : l.longest ≡ fold (λ most e. max most (side e)) l.fn.before (flat_map edges (flat_map (λ polygon. map positions_of polygon.items) (take l.polygon-index l.polygons)));
  bound : l.longest ≤ 2 * 10 ^ 12;
}
