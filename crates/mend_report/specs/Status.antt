-- The status that a report ends the program with.
use Rattle.std.specs.Prelude.{ℕ, Bool, ◌&&◌, ◌==◌, Result, Ok, Err, if◌then◌else◌}
use Rattle.mend_report.specs.Report.{reads_unchanged, is_clear}
use Rattle.mend_report.specs.declared.asked.Report.{Report}
use Rattle.mend_report.specs.declared.remaking.Remade.{Remade}
use Rattle.map_mending.specs.declared.fault.MendFault.TheVariants as mending
use Rattle.mend_report.specs.declared.save_fault.SaveFault.TheVariants as saving
use Rattle.mend_report.specs.declared.repair_fault.RepairFault.{RepairFault}
use Rattle.mend_report.specs.declared.repair_fault.RepairFault.TheVariants.{Look, Mend, Save}
use Rattle.mend_report.specs.declared.looking.LookFault.{LookFault}
use Rattle.mend_report.specs.declared.looking.LookFault.TheVariants.{Open, TooMany, OutOfMemory}

-- nothing keeps the map from opening as it is
abbrev pub is_open : {A : Type 0} → Report A → Bool
is_open report =
    reads_unchanged report.grid && report.dropped == 0
    && is_clear report.findings.short.items report.findings.repeats.items
    report.findings.touches.items report.findings.crossings.items

-- 0 where nothing keeps the map from opening, 1 where something does, 2 where it can't be read or not
-- all can be listed, and 3 where an allocation failed
abbrev pub report_status : {A : Type 0} → Result (Report A) LookFault → ℕ
report_status (Ok report) = if is_open report then 0 else 1
report_status (Err (Open fault)) = 2
report_status (Err TooMany) = 2
report_status (Err OutOfMemory) = 3

-- 2 where a map can't be mended, and 3 where an allocation failed
abbrev pub unmended_status : RepairFault → ℕ
unmended_status (Look (Open fault)) = 2
unmended_status (Look TooMany) = 2
unmended_status (Look OutOfMemory) = 3
unmended_status (Mend mending.TooLarge) = 2
unmended_status (Mend (mending.Unmended s t)) = 2
unmended_status (Mend (mending.Unparted feature polygon)) = 2
unmended_status (Mend mending.OutOfMemory) = 3
unmended_status (Save (saving.Conflict s t)) = 2
unmended_status (Save saving.Unopened) = 2
unmended_status (Save saving.OutOfMemory) = 3

-- 0 where a map was mended
abbrev pub mended_status : {A : Type 0} → Result (Remade A) RepairFault → ℕ
mended_status (Ok remade) = 0
mended_status (Err fault) = unmended_status fault
