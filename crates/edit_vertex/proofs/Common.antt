-- The words of this crate that others cite most, passed on from one place. Declares nothing.
pub use Rattle.edit_vertex.proofs.SidesKept.{part_keeps, same_keeps}
