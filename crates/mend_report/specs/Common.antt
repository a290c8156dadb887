-- The words of this crate that others cite most, passed on from one place. Declares nothing.
pub use Rattle.mend_report.specs.Looking.{EditorOpens, HasWalks, Looked, MapOpens, OpensOn, under}
pub use Rattle.mend_report.specs.AsIs.{IsKeptAsIs, KeepsAsIs, TellsKept, TellsNothing, whole_grid}
pub use Rattle.mend_report.specs.Opens.{HasOpened, IsRead, OpensAgain}
pub use Rattle.mend_report.specs.Remaking.{IsRemade, PlacesRemade, RemakesWhole}
pub use Rattle.mend_report.specs.Report.{all_counts_line, area_line, counts_line, crossing_line, findings_text}
pub use Rattle.mend_report.specs.Report.{found_text, grid_text, is_clear, reads_unchanged, lines, opens_line, parts_line}
pub use Rattle.mend_report.specs.Report.{path_line, repeat_line, report_text, short_line, touch_line}
pub use Rattle.mend_report.specs.Status.{mended_status, report_status, unmended_status}
pub use Rattle.mend_report.specs.Unsaved.{DoesNotOpen, IsUnsaved, unbuilt}
pub use Rattle.mend_report.specs.declared.asked.Asked.{Asked}
pub use Rattle.mend_report.specs.declared.asked.Report.{Report}
pub use Rattle.mend_report.specs.declared.looking.LookFault.{LookFault}
pub use Rattle.mend_report.specs.declared.remaking.Remade.{Remade}
