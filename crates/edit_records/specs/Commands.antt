-- The commands of the code as the machine's.
use Rattle.std.specs.Prelude.{◌≤◌, length}
use Rattle.ring_machine.specs.Command.{Command as Asked}
use Rattle.ring_machine.specs.Command as machine
use Rattle.edit_records.specs.Strings.{string_text}
use Rattle.edit_records.specs.declared.command.Command.{Command}
use Rattle.edit_records.specs.declared.command.Command.TheVariants.{Move, Insert, Remove, Thin, Split, Merge, Rename, Delete, Area, At, Neighbours}

-- an id is the JSON string that is written for its text
abbrev pub command_of : Command → Asked
command_of (Move p q) = machine.Move p q
command_of (Insert a b q) = machine.Insert a b q
command_of (Remove p) = machine.Remove p
command_of (Thin t) = machine.Thin t
command_of (Split n name path) = machine.Split n (string_text name) path
command_of (Merge n m) = machine.Merge n m
command_of (Rename n name) = machine.Rename n (string_text name)
command_of (Delete n) = machine.Delete n
command_of (Area n) = machine.Area n
command_of (At p) = machine.At p
command_of (Neighbours n) = machine.Neighbours n

-- the path of a split has 2 to 256 positions
abbrev pub IsSound : Command → Type 0
IsSound (Split n name path) = (2 ≤ length path) × (length path ≤ 256)
IsSound (Move p q) = Unit {0}
IsSound (Insert a b q) = Unit {0}
IsSound (Remove p) = Unit {0}
IsSound (Thin t) = Unit {0}
IsSound (Merge n m) = Unit {0}
IsSound (Rename n name) = Unit {0}
IsSound (Delete n) = Unit {0}
IsSound (Area n) = Unit {0}
IsSound (At p) = Unit {0}
IsSound (Neighbours n) = Unit {0}
