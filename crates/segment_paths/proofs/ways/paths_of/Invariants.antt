use Rattle.kit_words.proofs.Common.{List, length, All}
use Rattle.grid_geometry.specs.Common.{Segment}
use Rattle.segment_paths.specs.Common.{ArePaths, paths_seen, IsStop}
use Rattle.segment_paths.proofs.ways.paths_of.Given as goal

abbrev pub invariant-loop-rest : goal.invariant-loop-rest
invariant-loop-rest g l =
    (ss : List Segment) → All (IsStop ss) l.stops → ArePaths ss (paths_seen l.paths.items) × All (IsStop ss) l.rest

abbrev pub decreases-loop-rest : goal.decreases-loop-rest
decreases-loop-rest g l = length l.rest
