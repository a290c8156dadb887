use Rattle.kit_words.proofs.Common.{◌≡◌, ◌≤◌, ◌*◌, map, take, length}
use Rattle.std.proofs.Common.{sum_by}
use Rattle.segment_paths.specs.Common.{paths_seen}
use Rattle.topo_reader.specs.Common.{polygon_positions}
use Rattle.map_mending.specs.Common.{swept_of}
use Rattle.map_mending.proofs.sweeping.swept.Given as goal

-- what the polygons so far sweep over, and how much it may be
abbrev pub invariant-loop-walks : goal.invariant-loop-walks
invariant-loop-walks g l = record {
  whole : l.sum ≡ swept_of (paths_seen l.paths) (map polygon_positions (take l.walks-index l.polygons));
  bound : l.sum ≤ 36893488147419103232000000000000 * sum_by (sum_by length) (map polygon_positions (take l.walks-index l.polygons));
}
