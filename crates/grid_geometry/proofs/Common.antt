-- The words of this crate that others cite most, passed on from one place. Declares nothing.
pub use Rattle.grid_geometry.proofs.Algebra.{above_above, assoc, comm, down_down, down_up, expand, up_down, weak}
pub use Rattle.grid_geometry.proofs.Boxes.{boxes_meet-comm, conflict-boxes_meet, cross-boxes_meet}
pub use Rattle.grid_geometry.proofs.Conflicts.{conflict-comm, conflict-same, position_cmp-back, position_cmp-exact}
pub use Rattle.grid_geometry.proofs.Conflicts.{position_eq-same, segment-comm}
pub use Rattle.grid_geometry.proofs.HeldLaw.{even_count, side}
pub use Rattle.grid_geometry.proofs.RingLemmas.{ring_is}
pub use Rattle.grid_geometry.proofs.Turns.{orientation-reverse}
