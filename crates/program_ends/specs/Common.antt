-- The words of this crate that others cite most, passed on from one place. Declares nothing.
pub use Rattle.program_ends.specs.Endings.{IsOpen}
pub use Rattle.program_ends.specs.Words.{with_version}
