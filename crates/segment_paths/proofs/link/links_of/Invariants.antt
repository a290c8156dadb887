use Rattle.kit_words.proofs.Common.{List, All}
use Rattle.grid_geometry.specs.Common.{Segment}
use Rattle.segment_paths.specs.Common.{ArePaths, paths_seen, IsPiece}
use Rattle.segment_paths.proofs.link.links_of.Given as goal

abbrev pub invariant-loop-path : goal.invariant-loop-path
invariant-loop-path g l = (ss : List Segment) → ArePaths ss (paths_seen l.paths) → All (IsPiece ss (paths_seen l.paths)) l.links.items
