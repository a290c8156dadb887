-- The words of this crate that others cite most, passed on from one place. Declares nothing.
pub use Rattle.vertex_index.proofs.PlacementLemmas.{get-inserted}
