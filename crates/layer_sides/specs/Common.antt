-- The words of this crate that others cite most, passed on from one place. Declares nothing.
pub use Rattle.layer_sides.specs.Levels.{bottom, is_under_way, level_lt, top}
pub use Rattle.layer_sides.specs.Sides.{Hand, Left, Polygon, Right, Side, bounded, doubled, holders, holds, holds_middle}
pub use Rattle.layer_sides.specs.Sides.{is_border, is_bounding, middle, numbers_from}
pub use Rattle.layer_sides.specs.Borders.{AreBorders, AreHeld, Bordering, IsProperLayer, segments_in}
pub use Rattle.layer_sides.specs.Sweep.{AreSwept, counts_for, has_number, is_odd_at}
pub use Rattle.layer_sides.specs.Seen.{border_seen, borders_seen}
