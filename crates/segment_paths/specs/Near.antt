-- When a segment meets the unit square around a position, and where along the segment a position is.
use Rattle.std.specs.Prelude.{ℤ, pos, ◌+◌, ◌*◌, ◌-ℤ◌, ◌+ℤ◌, ◌*ℤ◌, Bool, ◌&&◌, ◌||◌, nat_le, nat_lt, int_lt, unsigned_abs}
use Rattle.grid_geometry.specs.Common.{Position, orientation, is_in_box, Segment}

-- the unit square around q meets the segment: q lies in its box, and no more than half a unit in x
-- or in y beside it
unfoldable pub is_near : Position → Segment → Bool
is_near q s =
    is_in_box q s.lo s.hi
    && nat_le (2 * unsigned_abs (orientation s.lo s.hi q))
    (unsigned_abs (s.hi.x -ℤ s.lo.x) + unsigned_abs (s.hi.y -ℤ s.lo.y))

-- q is to the left of the segment, which falls from its lesser end to the greater one
unfoldable pub is_above_falling : Position → Segment → Bool
is_above_falling q s =
    int_lt s.hi.y s.lo.y && int_lt (pos 0) (orientation s.lo s.hi q)

-- the half-open unit square around q, with its left and its lower side and without the others, meets
-- the segment: the whole square does, and more of it than a corner; or the corner is the lower left
-- one, which a segment touches that falls below q
unfoldable pub meets_square : Segment → Position → Bool
meets_square s q =
    is_near q s
    && (nat_lt (2 * unsigned_abs (orientation s.lo s.hi q))
    (unsigned_abs (s.hi.x -ℤ s.lo.x) + unsigned_abs (s.hi.y -ℤ s.lo.y))
    || is_above_falling q s)

-- how far along the segment q stands: 0 at its lesser end, and more towards the greater one
unfoldable pub along : Segment → Position → ℤ
along s q =
    (q.x -ℤ s.lo.x) *ℤ (s.hi.x -ℤ s.lo.x) +ℤ (q.y -ℤ s.lo.y) *ℤ (s.hi.y -ℤ s.lo.y)
