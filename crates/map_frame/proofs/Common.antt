-- The words of this crate that others cite most, passed on from one place. Declares nothing.
pub use Rattle.map_frame.proofs.NamedForgotten.{element_is}
pub use Rattle.map_frame.proofs.NamedOnce.{found_at, in_part, one_owner, one_part, rest_distinct, ring_in, same_some}
pub use Rattle.map_frame.proofs.NamedRoom.{of_in}
