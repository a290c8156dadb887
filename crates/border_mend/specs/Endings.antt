-- The status that a report ends the program with, and the line on standard error that tells why there is none.
use Rattle.std.specs.Prelude.{◌≡◌, ℕ, Bool, true, false, Result, Ok, Err}
use Rattle.mend_report.specs.Common.{report_status}
use Rattle.mend_report.specs.declared.asked.Report.{Report}
use Rattle.mend_report.specs.declared.looking.LookFault.{LookFault}
use Rattle.mend_report.specs.declared.looking.LookFault.TheVariants as fault
use Rattle.map_mending.specs.declared.fault.MendFault.{MendFault}
use Rattle.map_mending.specs.declared.fault.MendFault.TheVariants as mending
use Rattle.mend_report.specs.declared.save_fault.SaveFault.{SaveFault}
use Rattle.mend_report.specs.declared.save_fault.SaveFault.TheVariants as saving
use Rattle.mend_report.specs.declared.repair_fault.RepairFault.{RepairFault}
use Rattle.mend_report.specs.declared.repair_fault.RepairFault.TheVariants as repair
use Rattle.topo_outline.specs.declared.fault.Limit.TheVariants as limit
use Rattle.grid_geometry.specs.Common.{Segment}
use Rattle.program_ends.specs.Common.{IsOpen}
use Rattle.program_ends.specs.declared.diagnostic.Diagnostic.{Diagnostic}
use Rattle.program_ends.specs.declared.diagnostic.Diagnostic.TheVariants.{Findings, TooLarge, Unmended, Unparted, NoMemory}

-- the status of a report: as the map opens or not; a GeoJSON object does not as it is
abbrev pub told_status : {A : Type 0} → Bool → Result (Report A) LookFault → ℕ
told_status false outcome = report_status outcome
told_status true (Ok report) = 1
told_status {A = A} true (Err fault) = report_status {A = A} (Err fault)

-- the line tells why there is no report
abbrev pub TellsNoReport : LookFault → Diagnostic → Type 0
TellsNoReport (fault.Open f) line = IsOpen f line
TellsNoReport fault.TooMany line = line ≡ Findings
TellsNoReport fault.OutOfMemory line = line ≡ NoMemory

-- the line tells that these two segments still conflict
abbrev pub IsUnmended : Segment → Segment → Diagnostic → Type 0
IsUnmended s t (Unmended one other) = (one.now ≡ s) × (other.now ≡ t)
IsUnmended s t line = ⊥

-- the line tells why a map that was looked through is not mended
abbrev pub TellsUnmade : MendFault → Diagnostic → Type 0
TellsUnmade mending.TooLarge line = line ≡ TooLarge limit.Positions
TellsUnmade (mending.Unmended s t) line = IsUnmended s t line
TellsUnmade (mending.Unparted feature polygon) line = line ≡ Unparted feature polygon
TellsUnmade mending.OutOfMemory line = line ≡ NoMemory

-- the line tells why what a map was mended to is not saved
abbrev pub TellsUnsaved : SaveFault → Diagnostic → Type 0
TellsUnsaved (saving.Conflict s t) line = IsUnmended s t line
TellsUnsaved saving.Unopened line = line ≡ TooLarge limit.Bytes
TellsUnsaved saving.OutOfMemory line = line ≡ NoMemory

-- the line tells why no map was mended
abbrev pub TellsUnmended : RepairFault → Diagnostic → Type 0
TellsUnmended (repair.Look f) line = TellsNoReport f line
TellsUnmended (repair.Mend f) line = TellsUnmade f line
TellsUnmended (repair.Save f) line = TellsUnsaved f line
