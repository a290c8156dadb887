-- The words of this crate that others cite most, passed on from one place. Declares nothing.
pub use Rattle.map_text.specs.Arcs.{arcs_of, are_equal, before_first, begun, cut_round, cut_way, from_first, index_from}
pub use Rattle.map_text.specs.Arcs.{index_of, indexes, is_arc, led_from, pieces, with_piece, with_pieces}
pub use Rattle.map_text.specs.Saved.{HasEachOnce, IsCut, Saved, between, closed}
pub use Rattle.map_text.specs.Text.{arc_text, arcs_text, closing_text, comma_if, commas, differences, feature_text}
pub use Rattle.map_text.specs.Text.{further, items_text, layer_member, list_text, member, member_if, member_text}
pub use Rattle.map_text.specs.Text.{object_text, opening_text, pair_text, pairs, polygon_text, ring_text, shape_text}
pub use Rattle.map_text.specs.Text.{text_of, type_text}
pub use Rattle.map_text.specs.Writable.{IsWritable}
