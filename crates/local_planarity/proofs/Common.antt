-- The words of this crate that others cite most, passed on from one place. Declares nothing.
pub use Rattle.local_planarity.proofs.Filling.{filled_none, filled_same}
