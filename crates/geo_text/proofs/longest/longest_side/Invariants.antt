use Rattle.kit_words.proofs.Common.{◌≡◌, ◌≤◌, ◌*◌, ◌^◌, ◌++◌, ◌∷◌, [], drop, flat_map, fold, map, max, take}
use Rattle.grid_geometry.specs.Common.{edges, links}
use Rattle.topo_reader.specs.Common.{positions_of}
use Rattle.geo_text.specs.Text.{side}
use Rattle.geo_text.proofs.longest.longest_side.Given as goal

abbrev pub invariant-loop-of_feature : goal.invariant-loop-of_feature
invariant-loop-of_feature g l = record {
  value : l.longest ≡ fold (λ most e. max most (side e)) 0 (flat_map edges (flat_map (λ polygon. map positions_of polygon.items) (flat_map (λ polygons. polygons.items) (take l.of_feature-index l.polygons))));
  bound : l.longest ≤ 2 * 10 ^ 12;
}
