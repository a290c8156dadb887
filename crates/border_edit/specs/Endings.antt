-- The line on standard error that tells a fault of a run, and what a strict run ends with.
use Rattle.std.specs.Prelude.{◌≡◌, ℕ, ◌==◌, List, Bool, Option, Some, None, if◌then◌else◌}
use Rattle.script_runner.specs.declared.fault.RunFault.{RunFault}
use Rattle.script_runner.specs.declared.fault.RunFault.TheVariants as fault
use Rattle.program_ends.specs.Common.{IsOpen}
use Rattle.program_ends.specs.declared.diagnostic.Diagnostic.{Diagnostic}
use Rattle.program_ends.specs.declared.diagnostic.Diagnostic.TheVariants.{Script, Write, Save, NoMemory, LinesRefused, CutOff}

-- the line tells this fault of a run; a script that can't be read is reported as one that can't be
-- opened
abbrev pub TellsRunFault : RunFault → Diagnostic → Type 0
TellsRunFault (fault.Open f) line = IsOpen f line
TellsRunFault fault.Read line = line ≡ Script
TellsRunFault fault.Write line = line ≡ Write
TellsRunFault fault.Save line = line ≡ Save
TellsRunFault fault.OutOfMemory line = line ≡ NoMemory

-- a strict run that answered the whole script saves this text where it refused no line and the script is
-- whole, and leaves FILE as it was elsewhere
abbrev pub strict_file : ℕ → Bool → List ℕ → Option (List ℕ)
strict_file refused whole text = if refused == 0 then (if whole then Some text else None) else None

-- the line that tells why FILE was left: first that lines were refused, and how many
abbrev pub strict_line : ℕ → Bool → Option Diagnostic
strict_line refused whole = if refused == 0 then (if whole then None else Some CutOff) else Some (LinesRefused refused)
