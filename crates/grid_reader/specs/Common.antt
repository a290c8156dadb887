-- The words of this crate that others cite most, passed on from one place. Declares nothing.
pub use Rattle.grid_reader.specs.Fine.{FinePosition, before_next_fine, fine_coordinate, fine_arcs, fits_finer_grid, fine_origin, fine_pair}
pub use Rattle.grid_reader.specs.Fine.{fine_pair_of, fine_sum, first_two_of}
unfoldable pub use Rattle.grid_reader.specs.Fine.{fine_arc, fine_position, fine_positions}
pub use Rattle.grid_reader.specs.Grid.{arcs_on, coordinates, decimals_kept, decimals_of_all, decimals_with, digits_fitting}
pub use Rattle.grid_reader.specs.Grid.{finer_by, furthest, furthest_of_all, greater, greatest_from}
pub use Rattle.grid_reader.specs.Grid.{has_further, heights, is_moved, smaller, most_decimals, positions_moved, position_on_grid, xy}
unfoldable pub use Rattle.grid_reader.specs.Grid.{fitting}
pub use Rattle.grid_reader.specs.Near.{IsNear}
pub use Rattle.grid_reader.specs.Needs.{needs_of, needs_with, no_needs, units_of, with_units}
pub use Rattle.grid_reader.specs.OnGridView.{view_on_grid}
pub use Rattle.grid_reader.specs.Opening.{AreOnGrid, ReadsOnGrid, demand_points_lie, grid_opening, has_points}
pub use Rattle.grid_reader.specs.Opening.{has_text_in, is_kept_text, opened_on}
pub use Rattle.grid_reader.specs.Seen.{arc_seen, arcs_seen, fine_seen}
pub use Rattle.grid_reader.specs.Told.{IsTold}
pub use Rattle.grid_reader.specs.Transform.{both_numbers, divided, number, one_shifted, or_bad_transform, transform_on}
pub use Rattle.grid_reader.specs.Transform.{new_transform_text, two_in}
unfoldable pub use Rattle.grid_reader.specs.Transform.{two_number_nodes, member_value}
pub use Rattle.grid_reader.specs.Wholes.{all_whole, has_wholes, is_whole_number}
pub use Rattle.grid_reader.specs.declared.fine_pos.FinePos.{FinePos}
pub use Rattle.grid_reader.specs.declared.needs.PointNeeds.{PointNeeds}
pub use Rattle.grid_reader.specs.declared.wants.Wants.{Wants}
