-- How a script ends.
use Rattle.std.specs.Prelude.{ℕ, ◌-◌, ◌==◌, List, length, slice_index, Bool, if◌then◌else◌}
use Rattle.edit_program.specs.declared.script_tail.ScriptTail.{ScriptTail}

-- the source that a script comes from
abbrev pub script_of : {R : Type 0} → ScriptTail R → R
script_of script = script.source

-- whether the last byte that came is a line feed, or none came
abbrev pub is_whole : {R : Type 0} → ScriptTail R → Bool
is_whole script = script.is_whole

-- whether it is once these bytes came too: the last of them tells, where there is one
abbrev pub whole_after : Bool → List ℕ → Bool
whole_after before given =
    if length given == 0 then before else slice_index given (length given - 1) == 10
