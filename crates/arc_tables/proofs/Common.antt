-- The words of this crate that others cite most, passed on from one place. Declares nothing.
pub use Rattle.arc_tables.proofs.Counting.{chain_has, chain_uses, segment_times, times_segment}
pub use Rattle.arc_tables.proofs.CutLemmas.{present}
pub use Rattle.arc_tables.proofs.Different.{any_contained, contained_any, different_including, from_including}
pub use Rattle.arc_tables.proofs.Different.{in_including, itself_including, none_contained}
pub use Rattle.arc_tables.proofs.EditLemmas.{edited_everywhere, once_alike, rings_unedited}
pub use Rattle.arc_tables.proofs.Moves.{chain_append}
pub use Rattle.arc_tables.proofs.Putting.{put_everywhere, puts_map, rings_linked, taken_last}
pub use Rattle.arc_tables.proofs.Removing.{drawn-turns, once_collapsed, onto_b, onto_other, onto_p}
pub use Rattle.arc_tables.proofs.RingLemmas.{around, held_ring, holds_ring, none_there, ring_here, rings_grown}
pub use Rattle.arc_tables.proofs.RingLemmas.{rings_kept, rings_taken}
pub use Rattle.arc_tables.proofs.Segments.{either_result, ends_of, on_err_map, on_ok_map}
