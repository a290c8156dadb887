-- What holds of the numbers that are written.
use Rattle.std.specs.Prelude.{◌≡◌, ℕ, ℤ, pos, ◌≤◌, ◌*◌, ◌^◌, ◌-◌, ◌-ℤ◌, ◌*ℤ◌, unsigned_abs, Some, option_map, IsTrue, int_lt}
use Rattle.decimal_texts.specs.Common.{parts_of}
use Rattle.grid_decimals.specs.Number.{units_of}
use Rattle.grid_decimals.specs.Written.{number_text}
use Rattle.grid_decimals.specs.Grid.{AxisOf, coordinate_of, nearest}

-- the text of so many units of 10^-k is read as so many again
abbrev pub IsReadBack : ℕ → ℤ → Type 0
IsReadBack k z = option_map (units_of k) (parts_of (number_text k z)) ≡ Some z

-- near: a coordinate of k decimals is within half a unit of the last one of the exact coordinate, of d decimals
abbrev pub IsNear : ℕ → ℕ → ℤ → Type 0
IsNear d k z = 2 * unsigned_abs ((pos (10 ^ (d - k)) *ℤ nearest d k z) -ℤ z) ≤ 10 ^ (d - k)

-- and it is exact where all decimals are written
abbrev pub IsExact : ℕ → ℤ → Type 0
IsExact d z = nearest d d z ≡ z

-- apart: along an axis with a positive scale that a unit of the last decimal is within, what is written of two whole
-- numbers is in their order, and differs where they do
abbrev pub IsApart : ℕ → ℕ → AxisOf → Type 0
IsApart d k a = (m n : ℤ) → IsTrue (int_lt m n)
    → IsTrue (int_lt (nearest d k (coordinate_of a m)) (nearest d k (coordinate_of a n)))
