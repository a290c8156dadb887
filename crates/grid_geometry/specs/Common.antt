-- The words of this crate that others cite most, passed on from one place. Declares nothing.
unfoldable pub use Rattle.grid_geometry.specs.Conflict.{conflict, cross, is_within}
pub use Rattle.grid_geometry.specs.Held.{is_held, is_in_box_of_three, is_spanned, some_left, some_right}
pub use Rattle.grid_geometry.specs.Orientation.{are_opposite, is_between, is_in_box}
unfoldable pub use Rattle.grid_geometry.specs.Orientation.{are_split, is_on, orientation}
pub use Rattle.grid_geometry.specs.Position.{InRange, Position, position, position_cmp, position_eq, position_lt}
pub use Rattle.grid_geometry.specs.Ring.{Edge, area_term, edges, is_counted, is_inside, is_odd_count, links}
pub use Rattle.grid_geometry.specs.Ring.{signed_area, total_area, xor}
pub use Rattle.grid_geometry.specs.Segment.{Box, IsBox, IsSegment, Segment, box_of, boxes_meet, is_end, segment}
pub use Rattle.grid_geometry.specs.Segment.{segment_cmp, segment_eq, segment_lt}
pub use Rattle.grid_geometry.specs.Text.{position_text, segment_text}
