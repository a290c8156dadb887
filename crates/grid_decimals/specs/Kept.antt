-- How many decimals are written.
use Rattle.std.specs.Prelude.{ℕ, zero, suc, ◌*◌, nat_le, unsigned_abs, min, max, if◌then◌else◌}
use Rattle.grid_decimals.specs.Grid.{GridOf}

-- as few decimals as keep so many units of the last one within a length; at most d, of which the units are given
unfoldable pub fewest : ℕ → ℕ → ℕ → ℕ
fewest zero units length = 0
fewest (suc d) units length = if nat_le (units * 10) length then fewest d (units * 10) length else suc d

-- the lesser scale
abbrev pub least_scale : GridOf → ℕ
least_scale g = min (unsigned_abs g.x.scale) (unsigned_abs g.y.scale)

-- as few decimals as keep positions apart: a unit of the last one is at most one of the grid
abbrev pub least_decimals : GridOf → ℕ
least_decimals g = fewest g.decimals 1 (least_scale g)

-- as few decimals as keep each vertex on its side of each segment, where no segment is wider or higher than this: 16
-- times as many units of the last decimal are at most one of the grid; all decimals, where these don't do
abbrev pub safe_decimals : ℕ → GridOf → ℕ
safe_decimals longest g = fewest g.decimals (16 * max 1 longest) (least_scale g)
