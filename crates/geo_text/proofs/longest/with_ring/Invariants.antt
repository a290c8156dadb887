use Rattle.kit_words.proofs.Common.{◌≡◌, ◌≤◌, ◌*◌, ◌^◌, ◌++◌, ◌∷◌, [], drop, flat_map, fold, map, max, take}
use Rattle.grid_geometry.specs.Common.{edges, links}
use Rattle.topo_reader.specs.Common.{positions_of}
use Rattle.geo_text.specs.Text.{side}
use Rattle.geo_text.proofs.longest.with_ring.Given as goal

abbrev pub invariant-loop-to : goal.invariant-loop-to
invariant-loop-to l = record {
  value : fold (λ most e. max most (side e)) l.longest (links (l.from ∷ drop l.to-index l.others ++ l.first ∷ [])) ≡ fold (λ most e. max most (side e)) l.fn.before (links (l.first ∷ l.others ++ l.first ∷ []));
  bound : l.longest ≤ 2 * 10 ^ 12;
}
