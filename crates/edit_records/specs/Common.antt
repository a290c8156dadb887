-- The words of this crate that others cite most, passed on from one place. Declares nothing.
pub use Rattle.edit_records.specs.Commands.{IsSound, command_of}
pub use Rattle.edit_records.specs.Histories.{AreUndoing, documents}
pub use Rattle.edit_records.specs.Places.{Alone, AreFormed, AreNumbered, Begins, Ends, Fills, LayerTree, Number, Place}
pub use Rattle.edit_records.specs.Places.{Places, Text_of, Tree, exchanged, exchanged_features, filled, grown}
pub use Rattle.edit_records.specs.Places.{had_before, has_place, is_exchanged, is_formed, item_at, items_of, leaf}
pub use Rattle.edit_records.specs.Places.{number_of, numbers_of, numbers_placed, or_empty, tree_with, with_changed}
pub use Rattle.edit_records.specs.Places.{with_new}
pub use Rattle.edit_records.specs.Records.{AreChanged, AreRemoved, Exchanged, Fits, Inserted, IsHeld, IsInserted, IsMap}
pub use Rattle.edit_records.specs.Records.{IsRemoved, Moved, Record, Removal, Removed, Renamed, Takes, Thinned, Undoes}
pub use Rattle.edit_records.specs.Records.{put_back, with_id}
unfoldable pub use Rattle.edit_records.specs.Records.{back}
pub use Rattle.edit_records.specs.Sizes.{weight, weights}
pub use Rattle.edit_records.specs.Strings.{string_text}
pub use Rattle.edit_records.specs.declared.command.Command.{Command}
