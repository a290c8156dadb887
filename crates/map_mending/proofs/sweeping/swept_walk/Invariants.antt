use Rattle.kit_words.proofs.Common.{◌≡◌, ◌≤◌, ◌+◌, ◌*◌, ◌∷◌, ◌++◌, [], drop}
use Rattle.std.proofs.Common.{sum_by}
use Rattle.grid_geometry.specs.Common.{links}
use Rattle.segment_paths.specs.Common.{paths_seen}
use Rattle.map_mending.specs.Common.{swept_by}
use Rattle.map_mending.proofs.sweeping.swept_walk.Given as goal

-- what is swept over so far and by the rest of the walk is all
abbrev pub invariant-loop-to : goal.invariant-loop-to
invariant-loop-to g l = record {
  whole : l.sum + sum_by (swept_by (paths_seen l.paths)) (links (l.from ∷ drop l.to-index l.rest ++ l.first ∷ [])) ≡ sum_by (swept_by (paths_seen l.paths)) (links (l.first ∷ l.rest ++ l.first ∷ []));
  bound : l.sum ≤ 36893488147419103232000000000000 * l.to-index;
}
