-- The words of this crate that others cite most, passed on from one place. Declares nothing.
pub use Rattle.device_io.proofs.DeviceLemmas.{Appends-none}
pub use Rattle.device_io.proofs.SendingLaws.{sends_front, took_both, took_first, took_none, took_nothing, took_second}
