-- The order of the list of segments under way, as the sweep keeps it between each two of them.
use Rattle.std.specs.Prelude.{Bool, not, ◌&&◌, ◌⊎◌, int_lt, pos, IsTrue, IsFalse}
use Rattle.grid_geometry.specs.Common.{Position, Segment, orientation, is_end}
use Rattle.layer_sides.specs.Levels.{bottom, top, level_lt}

-- w is at the level of the bottom of s or after it, and at that of its top or before it
abbrev pub reaches : Position → Segment → Bool
reaches w s = not (level_lt w (bottom s)) && not (level_lt (top s) w)

-- w is strictly on the right of s
abbrev pub is_right : Position → Segment → Bool
is_right w s = int_lt (orientation (bottom s) (top s) w) (pos 0)

-- w is strictly on the left of s
abbrev pub is_left : Position → Segment → Bool
is_left w s = int_lt (pos 0) (orientation (bottom s) (top s) w)

-- t lies before u: what both reach, and is not an end of both, is strictly right of t or strictly left of u
abbrev pub InOrder : Segment → Segment → Type 0
InOrder t u = (w : Position) → IsTrue (reaches w t) → IsTrue (reaches w u) → IsFalse (is_end w t && is_end w u)
    → IsTrue (is_right w t) ⊎ IsTrue (is_left w u)
