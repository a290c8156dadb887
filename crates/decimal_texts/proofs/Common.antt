-- The words of this crate that others cite most, passed on from one place. Declares nothing.
pub use Rattle.decimal_texts.proofs.Powers.{power_mono, power_pos}
pub use Rattle.decimal_texts.proofs.RoundedUnits.{scale_fits, small_fits}
