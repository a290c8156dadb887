-- The order in which a sweep comes to positions, and the segments that it meets at one of them.
use Rattle.std.specs.Prelude.{Bool, not, ◌&&◌, ◌||◌, int_lt, if◌then◌else◌}
use Rattle.std.specs.Ordering.{int_eq}
use Rattle.grid_geometry.specs.Common.{Position, Segment}

-- p comes before q by level: it is lower, or at one height and further to the right
abbrev pub level_lt : Position → Position → Bool
level_lt p q = int_lt p.y q.y || (int_eq p.y q.y && int_lt q.x p.x)

-- the end of a segment that comes first by level
abbrev pub bottom : Segment → Position
bottom s = if level_lt s.lo s.hi then s.lo else s.hi

-- the end of a segment that comes last by level
abbrev pub top : Segment → Position
top s = if level_lt s.lo s.hi then s.hi else s.lo

-- the segment is under way at w: it begins at the level of w or before, and ends after it
abbrev pub is_under_way : Position → Segment → Bool
is_under_way w s = not (level_lt w (bottom s)) && level_lt w (top s)
