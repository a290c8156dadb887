-- The words of this crate that others cite most, passed on from one place. Declares nothing.
pub use Rattle.segment_paths.proofs.Searched.{found_at, not_found}
