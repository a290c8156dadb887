-- The words of this crate that others cite most, passed on from one place. Declares nothing.
pub use Rattle.decimal_texts.specs.Changes.{change}
pub use Rattle.decimal_texts.specs.Decimal.{Parts, behind_digits, behind_integer, digits_of, exponent_of, parts_of}
pub use Rattle.decimal_texts.specs.Decimal.{signed_small, small, unsigned, with_exponent}
pub use Rattle.decimal_texts.specs.Dropped.{line_geometries, behind, blanked, end_of, nulled, without_line}
unfoldable pub use Rattle.decimal_texts.specs.Dropped.{overwritten, range_of}
pub use Rattle.decimal_texts.specs.Exponent.{behind_e, exponent_digits, without_sign}
pub use Rattle.decimal_texts.specs.Fine.{decimals, fine, first_digits, is_rounded, one_if_more, reach, rounded}
unfoldable pub use Rattle.decimal_texts.specs.Fine.{zeros_behind}
pub use Rattle.decimal_texts.specs.Found.{found_value}
pub use Rattle.decimal_texts.specs.Geometries.{all_geometries, has_type, is_of, collected, says, value_in}
unfoldable pub use Rattle.decimal_texts.specs.Geometries.{geometries_in, value_named}
pub use Rattle.decimal_texts.specs.Gives.{IsPointFault, AnswersAs}
pub use Rattle.decimal_texts.specs.Points.{all_coordinates, coordinates_of, first_two}
pub use Rattle.decimal_texts.specs.Rounded.{bytes_between, all_or_fault, fits_grid, number_on_grid, rounded_points}
unfoldable pub use Rattle.decimal_texts.specs.Rounded.{new_text, spliced}
pub use Rattle.decimal_texts.specs.Rounded.{ok_then, rounded_under}
pub use Rattle.decimal_texts.specs.Seen.{parts}
pub use Rattle.decimal_texts.specs.Shifted.{or_zero, shifted_text, sign_text, without_zeros}
