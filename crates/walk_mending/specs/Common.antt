-- The words of this crate that others cite most, passed on from one place. Declares nothing.
pub use Rattle.walk_mending.specs.Cancelled.{EndsIn, IsCancelled, put, taken}
pub use Rattle.walk_mending.specs.Laid.{GoesAlong, KeepsInOrder, between, edge_along, ends, kept, laid}
pub use Rattle.walk_mending.specs.Mended.{BoundWithoutRings, ArePartsOf, HasOdd, IsMended, KeepsOddEnds, rings_of_parts}
pub use Rattle.walk_mending.specs.Mended.{has_ring, is_position_of, parted, stays}
pub use Rattle.walk_mending.specs.Odd.{is_among, is_bounding, is_bounding_in, is_odd_in, times_in_walks}
