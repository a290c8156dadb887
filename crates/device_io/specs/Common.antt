-- The words of this crate that others cite most, passed on from one place. Declares nothing.
pub use Rattle.device_io.specs.Devices.{AppendsPrefix}
pub use Rattle.device_io.specs.Sending.{Sends, Stands, Took, TookFront}
