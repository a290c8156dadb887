-- Why there are no paths.
use Rattle.std.specs.Prelude.{ℕ, ◌<◌, List, Contains, IsTrue}
use Rattle.grid_geometry.specs.Common.{Segment, conflict}
use Rattle.segment_paths.specs.declared.fault.PathFault.{PathFault}
use Rattle.segment_paths.specs.declared.fault.PathFault.TheVariants.{TooMany, Unmended, OutOfMemory}
use Rattle.segment_paths.specs.Paths.{PathOfSegment, ArePaths, inner_positions, links_of}

-- s and t are two of the segments, and a link of the one conflicts with a link of the other
pub record StillConflict (ss : List Segment) (paths : List PathOfSegment) (s t : Segment) : Type 0 where
  pub one : Contains ss s
  pub other : Contains ss t
  pub link : Segment
  pub of_one : Contains (links_of paths s) link
  pub opposite : Segment
  pub of_other : Contains (links_of paths t) opposite
  pub conflict : IsTrue (conflict link opposite)

-- there are paths of the segments that put in more positions than so many
pub record HasMore (ss : List Segment) (most : ℕ) : Type 0 where
  pub paths : List PathOfSegment
  pub are_paths : ArePaths ss paths
  pub more : most < inner_positions paths

-- there are paths of the segments under which these two still conflict
pub record IsUnmended (ss : List Segment) (s t : Segment) : Type 0 where
  pub paths : List PathOfSegment
  pub are_paths : ArePaths ss paths
  pub conflict : StillConflict ss paths s t

-- why there are no paths of these segments that put in at most so many positions; allocation failure
-- says nothing
abbrev pub IsPathFault : List Segment → ℕ → PathFault → Type 0
IsPathFault ss most TooMany = HasMore ss most
IsPathFault ss most (Unmended s t) = IsUnmended ss s t
IsPathFault ss most OutOfMemory = Unit {0}
