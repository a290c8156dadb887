-- The frame of a grid: where its cells begin, how wide and high each is, and how many there are.
use Rattle.std.specs.Prelude.{◌≤◌, ◌<◌, ℤ, pos, ℕ, ◌+◌, ◌*◌, ◌/◌, ◌-ℤ◌, Bool}
use Rattle.std.specs.Prelude.{Option, Some, None, unsigned_abs, cond, leb}
use Rattle.grid_geometry.specs.Common.{Box}
use Rattle.segment_sets.specs.Covers.{Lines, line}

-- how many columns a grid has, and how many rows, where nothing is known of its segments
abbrev pub usual_side : ℕ
usual_side = 64

-- the least corner of a grid, the width and the height of a cell, and how many columns there are,
-- and how many rows
pub record Frame : Type 0 where
  pub x0 : ℤ
  pub y0 : ℤ
  pub width : ℕ
  pub height : ℕ
  pub side : ℕ

-- the corner is in range, a cell is no line, and there are some cells, and not too many
pub record IsFrame (f : Frame) : Type 0 where
  pub across : unsigned_abs f.x0 ≤ 1000000000000
  pub upward : unsigned_abs f.y0 ≤ 1000000000000
  pub wide : 0 < f.width
  pub high : 0 < f.height
  pub some : 0 < f.side
  pub few : f.side ≤ 512

-- the size of a cell, where so many of them reach from the first coordinate past the last
abbrev pub cell_size : ℕ → ℤ → ℤ → ℕ
cell_size side first last = unsigned_abs (last -ℤ first) / side + 1

-- the frame of so many columns and rows over an extent; where there is none, over the one position
-- 0 0
abbrev pub frame_with : ℕ → Option Box → Frame
frame_with side (Some r) = record {
  x0 = r.x0;
  y0 = r.y0;
  width = cell_size side r.x0 r.x1;
  height = cell_size side r.y0 r.y1;
  side = side;
}
frame_with side None = record { x0 = pos 0; y0 = pos 0; width = 1; height = 1; side = side }

-- the usual frame of an extent
abbrev pub frame_of : Option Box → Frame
frame_of = frame_with usual_side

-- a grid of so many columns and rows has a cell for each sixteen of so many segments
abbrev pub is_fine : ℕ → ℕ → Bool
is_fine side count = leb count (16 * (side * side))

-- how many columns and rows a grid for so many segments has: the usual number or twice, four or
-- eight times as many, the least that is fine enough, and the greatest where none is
abbrev pub side_for : ℕ → ℕ
side_for count =
    cond (is_fine usual_side count) usual_side
    (cond (is_fine 128 count) 128 (cond (is_fine 256 count) 256 512))

-- the columns and rows of a frame
abbrev pub lines_of : Frame → Lines
lines_of f = record { column = line f.side f.x0 f.width; row = line f.side f.y0 f.height }
