-- The words of this crate that others cite most, passed on from one place. Declares nothing.
pub use Rattle.cover_report.specs.Asked.{Wants, view_asked}
pub use Rattle.cover_report.specs.Counted.{counts_of, faces_of, is_clear, told}
pub use Rattle.cover_report.specs.Faces.{FaceTold, view_told}
pub use Rattle.cover_report.specs.Faults.{IsRefused, OpensProper}
pub use Rattle.cover_report.specs.Found.{IsLookedAt}
pub use Rattle.cover_report.specs.Layers.{AreLooks, LookedAt, view_looked}
pub use Rattle.cover_report.specs.Names.{are_there}
unfoldable pub use Rattle.cover_report.specs.Layers.{asked_layers}
pub use Rattle.cover_report.specs.Report.{report_text}
