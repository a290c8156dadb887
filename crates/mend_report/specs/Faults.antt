-- Why what a map is mended to is not saved.
use Rattle.std.specs.Prelude.{List}
use Rattle.ring_machine.specs.Common.{Document}
use Rattle.segment_paths.specs.Common.{PathOfSegment}
use Rattle.map_mending.specs.Common.{MendedBy, Mended}
use Rattle.mend_report.specs.Unsaved.{IsUnsaved}
use Rattle.mend_report.specs.declared.save_fault.SaveFault.{SaveFault}

-- some paths mend the document to one that is not saved, for this reason
pub record IsMendedUnsaved (d : Document) (fault : SaveFault) : Type 0 where
  pub paths : List PathOfSegment
  pub document : Document
  pub by : MendedBy d paths
  pub mended : Mended paths d document
  pub unsaved : IsUnsaved document fault
