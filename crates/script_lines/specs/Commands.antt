-- The lines of the code as the machine's commands.
use Rattle.std.specs.Prelude.{◌≡◌, ℕ, List, Option, None, Some, MatchOption, IsSomeAnd}
use Rattle.ring_machine.specs.Common.{Command, Undo, Rings, Count, Show}
use Rattle.script_lines.specs.Lines.{asking_word, AskedWith, Says}
use Rattle.edit_records.specs.Common.{command_of, IsSound}
use Rattle.script_lines.specs.declared.lines.Line.{Line}
use Rattle.script_lines.specs.declared.lines.Line.TheVariants as said
use Rattle.script_lines.specs.declared.lines.LineFault.{LineFault}
use Rattle.script_lines.specs.declared.lines.LineFault.TheVariants as fault

abbrev pub says_of : Line → Option Command
says_of said.Skip = None
says_of (said.Rings n) = Some (Rings n)
says_of said.Count = Some Count
says_of said.Document = Some Show
says_of said.Undo = Some Undo
says_of (said.Edit c) = Some (command_of c)

-- what a line says, if it says anything that is taken, is sound
abbrev pub SaysSound : Option Line → Type 0
SaysSound None = Unit {0}
SaysSound (Some said.Skip) = Unit {0}
SaysSound (Some (said.Rings n)) = Unit {0}
SaysSound (Some said.Count) = Unit {0}
SaysSound (Some (said.Edit c)) = IsSound c
SaysSound (Some said.Document) = Unit {0}
SaysSound (Some said.Undo) = Unit {0}

-- a line that says nothing is bad; nothing is said of one for which there was no memory
abbrev pub IsRefused : LineFault → List ℕ → Type 0
IsRefused fault.BadLine l = (asked : Option Command) → ¬ Says l asked
IsRefused fault.OutOfMemory l = Unit {0}

-- what is found is such a one, and where nothing is found there is none
abbrev pub Finds : {X : Type 0} → Option X → (X → Type 0) → Type 0
Finds {X} found Is = MatchOption found ((x : X) → ¬ Is x) Is

-- the same of the command that a line says
abbrev pub FindsCommand : Option Line → (Command → Type 0) → Type 0
FindsCommand found Is = MatchOption found ((c : Command) → ¬ Is c) (λ l. IsSomeAnd (says_of l) Is)

-- the command is asked with this word and what follows it
abbrev pub AskedBy : List ℕ → List ℕ → Command → Type 0
AskedBy word tail c = (asking_word c ≡ word) × AskedWith tail c
