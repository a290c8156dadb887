-- Where two segments cross, rounded to the grid.
use Rattle.std.specs.Prelude.{ℤ, ℕ, pos, ◌+◌, ◌-ℤ◌, ◌+ℤ◌, ◌*ℤ◌, ◌≤ℤ◌, ◌<ℤ◌, unsigned_abs}
use Rattle.grid_geometry.specs.Common.{Position, orientation, Segment}

-- z is a / b, rounded to a whole number, a half upwards: 2 z - 1 <= 2 a / b < 2 z + 1
pub record IsRounded (a : ℤ) (b : ℕ) (z : ℤ) : Type 0 where
  pub least : ((pos 2 *ℤ z -ℤ pos 1) *ℤ pos b) ≤ℤ (pos 2 *ℤ a)
  pub most : (pos 2 *ℤ a) <ℤ ((pos 2 *ℤ z +ℤ pos 1) *ℤ pos b)

-- how far p is beside the line of t, up to a factor that t alone gives
abbrev pub beside : Segment → Position → ℕ
beside t p = unsigned_abs (orientation t.lo t.hi p)

-- how far the lesser end of s is beside the line of t, and both ends together: the crossing is at
-- `before / whole` of the way from the lesser end to the greater one
abbrev pub beside_lesser_end : Segment → Segment → ℕ
beside_lesser_end s t = beside t s.lo

abbrev pub whole : Segment → Segment → ℕ
whole s t = beside t s.lo + beside t s.hi

-- z is the number at part / whole of the way from a to b, rounded
abbrev pub IsRoundedBetween : ℤ → ℤ → ℕ → ℕ → ℤ → Type 0
IsRoundedBetween a b part whole z =
    IsRounded (a *ℤ pos whole +ℤ (b -ℤ a) *ℤ pos part) whole z

-- q is the crossing of s and t, rounded to the grid
pub record IsRoundedCrossing (s t : Segment) (q : Position) : Type 0 where
  pub across : IsRoundedBetween s.lo.x s.hi.x (beside_lesser_end s t) (whole s t) q.x
  pub upward : IsRoundedBetween s.lo.y s.hi.y (beside_lesser_end s t) (whole s t) q.y
