-- What a line says is sound: the path of a split has as many positions as a path may have.
use Rattle.kit_words.proofs.Common.{List, ℕ, Some}
use Rattle.script_lines.specs.Common.{Asks, Says, says_of, SaysSound, Line}
use Rattle.edit_records.specs.Common.{command_of, IsSound}
use Rattle.edit_records.specs.declared.command.Command.{Command}
use Rattle.edit_records.specs.declared.command.Command.TheVariants as line
use Rattle.script_lines.specs.declared.lines.Line.TheVariants as said

asked_sound : (text : List ℕ) (c : Command) → Asks text (command_of c) → IsSound c
asked_sound text (line.Split n name path) h = (h.asked.1.least, h.asked.1.most)
asked_sound text (line.Move p q) h = tt
asked_sound text (line.Insert a b q) h = tt
asked_sound text (line.Remove p) h = tt
asked_sound text (line.Thin t) h = tt
asked_sound text (line.Merge n m) h = tt
asked_sound text (line.Rename n name) h = tt
asked_sound text (line.Delete n) h = tt
asked_sound text (line.Area n) h = tt
asked_sound text (line.At p) h = tt
asked_sound text (line.Neighbours n) h = tt

pub said_sound : (text : List ℕ) (l : Line) → Says text (says_of l) → SaysSound (Some l)
said_sound text said.Skip h = tt
said_sound text (said.Rings n) h = tt
said_sound text said.Count h = tt
said_sound text (said.Edit c) h = asked_sound text c h.1
said_sound text said.Document h = tt
said_sound text said.Undo h = tt
