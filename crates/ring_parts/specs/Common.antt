-- The words of this crate that others cite most, passed on from one place. Declares nothing.
pub use Rattle.ring_parts.specs.Borders.{IsEitherWay, begins, both_ends, edge_cmp, ends_of, is_shared, off_ones, run_ends}
pub use Rattle.ring_parts.specs.Borders.{shared_ends}
pub use Rattle.ring_parts.specs.Merges.{joined_rings}
pub use Rattle.ring_parts.specs.Seen.{outer_length, path_seen, polygons_seen, rings_seen}
