-- The words of this crate that others cite most, passed on from one place. Declares nothing.
pub use Rattle.point_queries.proofs.Shows.{count_is, is_shown, no_ring_read, numbers_shown, ring_read}
