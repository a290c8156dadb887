-- The words of this crate that others cite most, passed on from one place. Declares nothing.
pub use Rattle.ring_parts.proofs.CountedFew.{counted_few, counted_flat, counted_more}
pub use Rattle.ring_parts.proofs.Lists.{none_at_all, none_more, some_here}
pub use Rattle.ring_parts.proofs.Searching.{any_permuted, search_tells}
pub use Rattle.ring_parts.proofs.WaySegments.{segments_along, way_on}
