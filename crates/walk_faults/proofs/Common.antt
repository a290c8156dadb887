-- The words of this crate that others cite most, passed on from one place. Declares nothing.
pub use Rattle.walk_faults.proofs.Ascending.{not_less, same_ascending, sorted_once}
pub use Rattle.walk_faults.proofs.RingEdges.{ring_segments, segment_ends, vertex_side}
