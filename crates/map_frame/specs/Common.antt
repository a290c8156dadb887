-- The words of this crate that others cite most, passed on from one place. Declares nothing.
pub use Rattle.map_frame.specs.Building.{AreLayers, AreSlots, CanTake, IsGeometry, IsLeaf, IsNext, IsSlot, Progress, first_of}
pub use Rattle.map_frame.specs.Building.{alone_or, is_lone, lone, of_slots, progress}
pub use Rattle.map_frame.specs.Copied.{AreCopied, geometry_text, holds, layer_text, seen, slot_text}
pub use Rattle.map_frame.specs.Framed.{Framed}
pub use Rattle.map_frame.specs.Growing.{new_after, with_number, with_slot}
pub use Rattle.map_frame.specs.Kept.{IsFramed, StandsAt, all_numbers, is_closing, is_enclosed, is_whole, numbers_at}
pub use Rattle.map_frame.specs.Kept.{numbers_in, numbers_under}
pub use Rattle.map_frame.specs.Live.{live}
pub use Rattle.map_frame.specs.Named.{AreNamed, IsNamed, number_at}
pub use Rattle.map_frame.specs.Naming.{AllNamed, Gain, HasRoom, IsNumberOf, Loss, SameNames, number_among}
pub use Rattle.map_frame.specs.Numbers.{feature_numbers, polygon_numbers}
pub use Rattle.map_frame.specs.Opened.{CanStand, opened}
pub use Rattle.map_frame.specs.Placed.{ArePlaced}
pub use Rattle.map_frame.specs.Readers.{Closes, Keeps, Opens, Shown, ShownFrame, ShownItem, ShownLayer, Stands, element}
pub use Rattle.map_frame.specs.Readers.{frame_ring, shown, shown_frame, shown_item, shown_layer}
pub use Rattle.map_frame.specs.Renaming.{id_or, with_own_id}
pub use Rattle.map_frame.specs.Seen.{doc_of, framed, items_at, items_of, layer_tree, leaf_of, places_at, places_of}
pub use Rattle.map_frame.specs.Seen.{tree_of, view_feature, view_layer}
pub use Rattle.map_frame.specs.Shown.{shown_leaves, shown_rest, view_item_view}
pub use Rattle.map_frame.specs.Texts.{Texts, texts_of, with_texts}
pub use Rattle.map_frame.specs.declared.feature.Feature.{Feature}
pub use Rattle.map_frame.specs.declared.feature.Stand.{Stand}
pub use Rattle.map_frame.specs.declared.tables.Geometry.{Geometry}
pub use Rattle.map_frame.specs.declared.tables.Layer.{Layer}
pub use Rattle.map_frame.specs.declared.tables.Slot.{Slot}
pub use Rattle.map_frame.specs.declared.names.RingName.{RingName}
pub use Rattle.map_frame.specs.declared.tables.Tables.{Tables}
