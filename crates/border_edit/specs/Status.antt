-- The status that a run ends the program with.
use Rattle.std.specs.Prelude.{ℕ, ◌==◌, Bool, Result, Ok, Err, if◌then◌else◌}
use Rattle.script_runner.specs.declared.runner.Summary.{Summary}
use Rattle.script_runner.specs.declared.fault.RunFault.{RunFault}
use Rattle.script_runner.specs.declared.fault.RunFault.TheVariants.{Open, Read, Write, Save, OutOfMemory}

-- 0 where all lines were accepted, 1 where some answer is a refusal or a bad line, 2 where the map was
-- not opened, and 3 where a device failed or an allocation failed
abbrev pub status_of : Result Summary RunFault → ℕ
status_of (Ok summary) = if summary.refused == 0 then 0 else 1
status_of (Err (Open fault)) = 2
status_of (Err Read) = 3
status_of (Err Write) = 3
status_of (Err Save) = 3
status_of (Err OutOfMemory) = 3

-- the same, and 1 too where a script whose lines were all accepted is not whole: its last line has no
-- line feed
abbrev pub strict_status : Result Summary RunFault → Bool → ℕ
strict_status (Ok summary) whole = if summary.refused == 0 then (if whole then 0 else 1) else 1
strict_status (Err fault) whole = status_of (Err fault)
