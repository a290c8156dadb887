-- The words of this crate that others cite most, passed on from one place. Declares nothing.
pub use Rattle.script_lines.proofs.CommandLemmas.{not_empty}
