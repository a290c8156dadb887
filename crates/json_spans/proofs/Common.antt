-- The words of this crate that others cite most, passed on from one place. Declares nothing.
pub use Rattle.json_spans.proofs.Framing.{Firm, alone, chars_framed, space_framed, value_framed}
pub use Rattle.json_spans.proofs.Grouped.{items_are_values, members_are_values, number_kind, padded_root, padded_value}
pub use Rattle.json_spans.proofs.Grouped.{root_padded, root_value}
pub use Rattle.json_spans.proofs.Meant.{digit_no_minus, means, one_whole, whole_is, whole_meant, whole_read}
pub use Rattle.json_spans.proofs.Padding.{Solid, first_is, stands, trimmed_is}
pub use Rattle.json_spans.proofs.Sized.{list_count, members_short, padded_short}
pub use Rattle.json_spans.proofs.Told.{item_values, items_told, list_kind, list_told, member_values, members_told}
pub use Rattle.json_spans.proofs.Told.{null_kind, null_told, number_told, object_kind, object_told, text_kind}
pub use Rattle.json_spans.proofs.Told.{text_told}
