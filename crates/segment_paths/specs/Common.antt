-- The words of this crate that others cite most, passed on from one place. Declares nothing.
pub use Rattle.segment_paths.specs.Crossing.{IsRounded, IsRoundedBetween, IsRoundedCrossing, beside_lesser_end, beside, whole}
pub use Rattle.segment_paths.specs.Faults.{HasMore, IsPathFault, StillConflict}
unfoldable pub use Rattle.segment_paths.specs.Near.{along, is_above_falling, is_near, meets_square}
pub use Rattle.segment_paths.specs.Paths.{ArePaths, IsKnown, IsWay, PathOfSegment, crossing, inner_of, inner_positions, links_of}
pub use Rattle.segment_paths.specs.Paths.{segments_with_path, vertex}
pub use Rattle.segment_paths.specs.Seen.{path_of_segment, paths_seen}
pub use Rattle.segment_paths.specs.Stops.{AreOwners, AreWays, IsLinkOf, IsPair, IsPiece, IsRound, IsStop}
pub use Rattle.segment_paths.specs.declared.path.SegmentPath.{SegmentPath}
