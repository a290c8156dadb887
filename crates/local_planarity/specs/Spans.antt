-- The box of three positions, and when a box has a position.
use Rattle.std.specs.Prelude.{ℤ, Bool, ◌&&◌, int_le}
use Rattle.std.specs.Int.{int_min, int_max}
use Rattle.grid_geometry.specs.Common.{Position, Box}

-- the least of three numbers
abbrev pub least_of : ℤ → ℤ → ℤ → ℤ
least_of a b c = int_min (int_min a b) c

-- the greatest of three numbers
abbrev pub most_of : ℤ → ℤ → ℤ → ℤ
most_of a b c = int_max (int_max a b) c

-- the least box that has all three positions
abbrev pub box_of_three : Position → Position → Position → Box
box_of_three a b c = record {
  x0 = least_of a.x b.x c.x;
  y0 = least_of a.y b.y c.y;
  x1 = most_of a.x b.x c.x;
  y1 = most_of a.y b.y c.y;
}

-- a position lies in a box, its sides included
abbrev pub lies_in : Position → Box → Bool
lies_in w r = (int_le r.x0 w.x && int_le w.x r.x1) && (int_le r.y0 w.y && int_le w.y r.y1)
