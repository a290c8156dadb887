-- The words of this crate that others cite most, passed on from one place. Declares nothing.
pub use Rattle.svg_text.specs.Elements.{view_box_text, box_attributes}
pub use Rattle.svg_text.specs.Escaping.{IsPlain, IsXmlText, ampersand, apostrophe, ends_noncharacter, escaped}
pub use Rattle.svg_text.specs.Escaping.{escaped_after, escaped_byte, escaped_from, greater, is_control, less, none}
pub use Rattle.svg_text.specs.Escaping.{plain, quote, reference, return}
pub use Rattle.svg_text.specs.Numbers.{attribute_text, number_pair_text}
