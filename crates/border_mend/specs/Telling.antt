-- What is told of the text that is looked at: of a text with its points on the grid that is asked for, and of what is
-- asked of it; or of a point that is not put there.
use Rattle.std.specs.Prelude.{◌≡◌, ℕ, List, ◌++◌, Result, Ok, Err, Vec}
use Rattle.decimal_texts.specs.declared.fault.PointFault.{PointFault}
use Rattle.mend_report.specs.Looking.{IsEnd}
use Rattle.mend_report.specs.Remaking.{TellsMending, IsMendEnd}
use Rattle.mend_report.specs.Report.{report_of}
use Rattle.mend_report.specs.declared.asked.Asked.{Asked}
use Rattle.mend_report.specs.declared.asked.Report.{Report}
use Rattle.mend_report.specs.declared.looking.LookFault.{LookFault}
use Rattle.mend_report.specs.declared.remaking.Remade.{Remade}
use Rattle.mend_report.specs.declared.repair_fault.RepairFault.{RepairFault}
use Rattle.mend_report.specs.declared.repair_fault.RepairFault.TheVariants as repair
use Rattle.border_mend.specs.Geojson.{is_geojson, look_in_file, parts_of, repair_in_file, told_report}
use Rattle.border_mend.specs.Points.{unread}
use Rattle.border_mend.specs.declared.geojson.Source.{Source}

-- ---- a report

-- why the text is not looked through
abbrev pub EndsLooking : {A : Type 0} → Result (Vec ℕ A × Asked) PointFault → LookFault → Type 0
EndsLooking (Ok p) fault = IsEnd fault p.1.grid p.0.items
EndsLooking (Err point) fault = fault ≡ unread point

-- the same, where the map's file has it
abbrev pub LookEnds : {A : Type 0}
    → Source → Result (Vec ℕ A × Asked) PointFault → LookFault → Type 0
LookEnds from text fault =
    (before : LookFault) × EndsLooking text before × (fault ≡ look_in_file (parts_of from) before)

-- the report of the text was put behind these lines
abbrev pub TellsLook : {A B : Type 0}
    → Result (Vec ℕ A × Asked) PointFault → Report B → List ℕ → List ℕ → Type 0
TellsLook (Ok p) report before after =
    after ≡ before ++ report_of p.1.most report.grid report.dropped report.findings
TellsLook (Err point) report before after = ⊥

-- the same, as the report of a map
abbrev pub Reports : {A B : Type 0}
    → Source → Result (Vec ℕ A × Asked) PointFault → Report B → List ℕ → List ℕ → Type 0
Reports from text report before after =
    (told : List ℕ) × TellsLook text report before told × (after ≡ told_report (is_geojson from) told)

-- ---- mending

-- why the text is not mended
abbrev pub EndsMending : {A : Type 0} → Result (Vec ℕ A × Asked) PointFault → RepairFault → Type 0
EndsMending (Ok p) fault = IsMendEnd fault p.1.grid p.0.items
EndsMending (Err point) fault = fault ≡ repair.Look (unread point)

-- the same, where the map's file has it
abbrev pub MendEnds : {A : Type 0}
    → Source → Result (Vec ℕ A × Asked) PointFault → RepairFault → Type 0
MendEnds from text fault =
    (before : RepairFault) × EndsMending text before
    × (fault ≡ repair_in_file (parts_of from) before)

-- what was found in the text, and done about it, was put behind these lines
abbrev pub TellsMend : {A B : Type 0}
    → Result (Vec ℕ A × Asked) PointFault → Remade B → List ℕ → List ℕ → Type 0
TellsMend (Ok p) remade before after = TellsMending p.1 p.0.items remade before after
TellsMend (Err point) remade before after = ⊥

-- the same, as the report of a map
abbrev pub Mends : {A B : Type 0}
    → Source → Result (Vec ℕ A × Asked) PointFault → Remade B → List ℕ → List ℕ → Type 0
Mends from text remade before after =
    (told : List ℕ) × TellsMend text remade before told × (after ≡ told_report (is_geojson from) told)
