-- Worked examples: the lines and the statuses of ends that take millions of findings, or a system without a seed.
use Rattle.kit_words.proofs.Common.{◌≡◌, ℕ, refl, Some, Result, Err, codes}
use Rattle.mend_report.specs.Common.{mended_status, report_status, unmended_status}
use Rattle.mend_report.specs.declared.asked.Report.{Report}
use Rattle.mend_report.specs.declared.remaking.Remade.{Remade}
use Rattle.mend_report.specs.declared.looking.LookFault.{LookFault}
use Rattle.mend_report.specs.declared.looking.LookFault.TheVariants as look
use Rattle.mend_report.specs.declared.repair_fault.RepairFault.{RepairFault}
use Rattle.mend_report.specs.declared.repair_fault.RepairFault.TheVariants as repair
use Rattle.map_mending.specs.declared.fault.MendFault.TheVariants as mending
use Rattle.program_ends.specs.Endings.{line_text, stop_line}
use Rattle.program_ends.specs.Stops.{stop_status}
use Rattle.program_ends.specs.declared.diagnostic.Diagnostic.TheVariants.{Findings, NoSeed}
use Rattle.program_ends.specs.declared.stop.Stop.TheVariants as stop
use Rattle.border_mend.specs.Endings.{TellsNoReport, TellsUnmended}

-- a map has no report
abbrev unreported : LookFault → Result (Report ℕ) LookFault
unreported fault = Err fault

-- a map is not mended
abbrev unmended : RepairFault → Result (Remade ℕ) RepairFault
unmended fault = Err fault

-- ---- more findings than can be listed

findings_line : TellsNoReport look.TooMany Findings
findings_line = refl

findings_unmended : TellsUnmended (repair.Look look.TooMany) Findings
findings_unmended = refl

findings_text : line_text Findings ≡ Some (codes "open: too many findings")
findings_text = refl

findings_status : report_status (unreported look.TooMany) ≡ 2
findings_status = refl

findings_mended_status : mended_status (unmended (repair.Look look.TooMany)) ≡ 2
findings_mended_status = refl

-- ---- paths that insert too much, and a polygon that can't be built anew

too_large_status : mended_status (unmended (repair.Mend mending.TooLarge)) ≡ 2
too_large_status = refl

unparted_status : unmended_status (repair.Mend (mending.Unparted 3 1)) ≡ 2
unparted_status = refl

-- ---- no seed

no_seed_line : stop_line stop.NoSeed ≡ Some NoSeed
no_seed_line = refl

no_seed_text : line_text NoSeed ≡ Some (codes "no random seed")
no_seed_text = refl

no_seed_status : stop_status stop.NoSeed ≡ 3
no_seed_status = refl
