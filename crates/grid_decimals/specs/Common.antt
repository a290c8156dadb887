-- The words of this crate that others cite most, passed on from one place. Declares nothing.
pub use Rattle.grid_decimals.specs.Grid.{AxisOf, GridOf, coordinate_of, coordinate_text, grid_of, is_flipped, nearest}
pub use Rattle.grid_decimals.specs.Grid.{axis_of, both, fits_axis, fitting, grid_by, grid_with, most_decimals}
pub use Rattle.grid_decimals.specs.Grid.{numbers_in, two_parts, whole_grid, x_text, y_text}
pub use Rattle.grid_decimals.specs.Kept.{least_decimals, least_scale, safe_decimals}
unfoldable pub use Rattle.grid_decimals.specs.Kept.{fewest}
pub use Rattle.grid_decimals.specs.Laws.{IsApart, IsExact, IsNear, IsReadBack}
pub use Rattle.grid_decimals.specs.Number.{decimals_of, power_of, significant, size_of, units_of}
pub use Rattle.grid_decimals.specs.Number.{at_least_zero, with_sign, without_zeros_behind, zeros_at_end}
pub use Rattle.grid_decimals.specs.Seen.{AreRead, HasParts, IsRead, view_axis, view_found, view_grid}
pub use Rattle.grid_decimals.specs.Written.{fraction_text, minus_text, number_text, padded, units_text}
unfoldable pub use Rattle.grid_decimals.specs.Written.{shortest}
