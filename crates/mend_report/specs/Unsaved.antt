-- Why a map is not saved.
use Rattle.std.specs.Prelude.{◌≡◌, ℕ, List, Some}
use Rattle.ring_machine.specs.Common.{Document, first_pair}
use Rattle.arc_store.specs.declared.fault.BuildFault.{BuildFault}
use Rattle.arc_store.specs.declared.fault.BuildFault.TheVariants as build
use Rattle.mend_report.specs.declared.save_fault.SaveFault.{SaveFault}
use Rattle.mend_report.specs.declared.save_fault.SaveFault.TheVariants.{Conflict, Unopened, OutOfMemory}
use Rattle.mend_report.specs.Opens.{HasOpened}
use Rattle.map_text.specs.Common.{text_of}

-- the text does not open
abbrev pub DoesNotOpen : List ℕ → SaveFault → Type 0
DoesNotOpen bytes (Conflict s t) = ⊥
DoesNotOpen bytes Unopened = ¬ HasOpened bytes
DoesNotOpen bytes OutOfMemory = Unit {0}

-- the fault names the least pair of segments in conflict, or the text of the document does not open;
-- allocation failure says nothing
abbrev pub IsUnsaved : Document → SaveFault → Type 0
IsUnsaved d (Conflict s t) = first_pair d ≡ Some (s, t)
IsUnsaved d Unopened = ¬ HasOpened (text_of d)
IsUnsaved d OutOfMemory = Unit {0}

-- why a map that is not built is not saved
abbrev pub unbuilt : BuildFault → SaveFault
unbuilt (build.Conflict s t) = Conflict s t
unbuilt build.OutOfMemory = OutOfMemory
