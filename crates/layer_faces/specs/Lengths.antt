-- Lengths of borders, and widths of faces.
use Rattle.std.specs.Prelude.{ℕ, zero, suc, ℤ, pos, negsuc, ◌+◌, ◌-◌, ◌*◌, ◌/◌, ◌^◌, ◌-ℤ◌, nat_le, unsigned_abs}
use Rattle.std.specs.Prelude.{List, if◌then◌else◌}
use Rattle.std.specs.List.{sum_by}
use Rattle.grid_geometry.specs.Common.{Segment}
use Rattle.layer_sides.specs.Common.{Side}

-- the root of n, rounded down, where n is below 4 ^ k
unfoldable pub root : ℕ → ℕ → ℕ
root zero n = 0
root (suc k) n =
    let r = 2 * root k (n / 4) in if nat_le ((r + 1) * (r + 1)) n then r + 1 else r

-- the square of a number
abbrev pub square : ℤ → ℕ
square z = unsigned_abs z * unsigned_abs z

-- the length of a segment in 65,536ths of a unit, rounded down
abbrev pub length_of : Segment → ℕ
length_of s = root 58 ((square (s.hi.x -ℤ s.lo.x) + square (s.hi.y -ℤ s.lo.y)) * 2 ^ 32)

-- the length of the segments of sides, each as often as it has a side among them
abbrev pub border_length : List Side → ℕ
border_length sides = sum_by (λ a. length_of a.0) sides

-- the width of a face in units, rounded up: twice its area by the length of its borders, in
-- 65,536ths; 0 where the area is not above 0
abbrev pub width_of : ℤ → ℕ → ℕ
width_of (pos area) length = (65536 * area + (length - 1)) / length
width_of (negsuc _) length = 0
