-- The words of this crate that others cite most, passed on from one place. Declares nothing.
pub use Rattle.program_ends.proofs.WordLemmas.{copies_apart, copy_is, read_text, word_is}
