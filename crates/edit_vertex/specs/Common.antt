-- The words of this crate that others cite most, passed on from one place. Declares nothing.
pub use Rattle.edit_vertex.specs.Kept.{IsThinRecorded, IsThinnedFrom}
pub use Rattle.edit_vertex.specs.Tested.{most_at, most_over}
unfoldable pub use Rattle.edit_vertex.specs.Tested.{most_for_thin}
pub use Rattle.edit_vertex.specs.Untested.{needs_no_pairs}
