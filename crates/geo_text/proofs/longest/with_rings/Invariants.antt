use Rattle.kit_words.proofs.Common.{◌≡◌, ◌≤◌, ◌*◌, ◌^◌, ◌++◌, ◌∷◌, [], drop, flat_map, fold, map, max, take}
use Rattle.grid_geometry.specs.Common.{edges, links}
use Rattle.topo_reader.specs.Common.{positions_of}
use Rattle.geo_text.specs.Text.{side}
use Rattle.geo_text.proofs.longest.with_rings.Given as goal

abbrev pub invariant-loop-ring : goal.invariant-loop-ring
invariant-loop-ring g l = record {
  value : l.longest ≡ fold (λ most e. max most (side e)) l.fn.before (flat_map edges (map positions_of (take l.ring-index l.rings)));
  bound : l.longest ≤ 2 * 10 ^ 12;
}
