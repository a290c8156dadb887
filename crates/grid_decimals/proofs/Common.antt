-- The words of this crate that others cite most, passed on from one place. Declares nothing.
pub use Rattle.grid_decimals.proofs.Powers.{power_mono, power_pos, scaled_grows}
