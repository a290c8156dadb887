-- The words of this crate that others cite most, passed on from one place. Declares nothing.
pub use Rattle.arc_store.proofs.FrameNames.{ring_named}
pub use Rattle.arc_store.proofs.Indexed.{end_vertex, in_segments, segment_in}
pub use Rattle.arc_store.proofs.Insertions.{has_segment, has_segment_by, is_segment_by, size_ins}
pub use Rattle.arc_store.proofs.Outcomes.{hands_on, holds_made, is_made, is_refused, just_begun, keeps_last}
pub use Rattle.arc_store.proofs.Outcomes.{with_refusal}
