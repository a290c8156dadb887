-- The words of this crate that others cite most, passed on from one place. Declares nothing.
pub use Rattle.script_lines.specs.Commands.{AskedBy, Finds, FindsCommand, IsRefused, SaysSound, says_of}
pub use Rattle.script_lines.specs.Lines.{AreFeatures, AreNaming, AreSpaced, AskedWith, Asks, Gives, Says, most_bound}
pub use Rattle.script_lines.specs.Lines.{spaced, spaced_path, spaced_position, spaced_token, asking_word}
pub use Rattle.script_lines.specs.Lines.{without_return}
pub use Rattle.script_lines.specs.Words.{EndsWord, IsFeature, IsMarked, IsPathTail, IsPlace, IsSpaced, IsToken, NoMark}
pub use Rattle.script_lines.specs.Words.{WithoutNeedlessZero, is_letter, is_unmarked}
pub use Rattle.script_lines.specs.declared.lines.Line.{Line}
