use Rattle.kit_words.proofs.Common.{◌≡◌, ◌≤◌, ◌*◌, map, take, length}
use Rattle.std.proofs.Common.{sum_by}
use Rattle.segment_paths.specs.Common.{paths_seen}
use Rattle.topo_reader.specs.Common.{positions_of}
use Rattle.map_mending.specs.Common.{swept_walks}
use Rattle.map_mending.proofs.sweeping.swept_walks.Given as goal

-- what the walks so far sweep over, and how much it may be
abbrev pub invariant-loop-walk : goal.invariant-loop-walk
invariant-loop-walk g l = record {
  whole : l.sum ≡ swept_walks (paths_seen l.paths) (map positions_of (take l.walk-index l.walks));
  bound : l.sum ≤ 36893488147419103232000000000000 * sum_by length (map positions_of (take l.walk-index l.walks));
}
