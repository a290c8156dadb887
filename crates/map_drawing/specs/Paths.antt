-- The paths of rings and of lines (SVG 1.1, 8.3): points in parts of a pixel from the upper left corner of the map, each
-- but the first of a ring or a line as a step from the one before it.
use Rattle.std.specs.Prelude.{ℕ, ℤ, pos, ◌-ℤ◌, List, [], ◌∷◌, ◌++◌, codes, flat_map, Vec, if◌then◌else◌, int_le}
use Rattle.std.specs.Fmt.{signed_decimal}
use Rattle.std.specs.Ordering.{int_eq}
use Rattle.svg_text.specs.Common.{number_pair_text}
use Rattle.map_drawing.specs.Points.{is_same}
use Rattle.map_drawing.specs.declared.points.Point.{Point}

-- a number after another one
abbrev pub next_text : ℤ → List ℕ
next_text n = if int_le (pos 0) n then (codes " " ++ signed_decimal n) else signed_decimal n

-- a move to a point
abbrev pub start_path : Point → List ℕ
start_path p = codes "M" ++ number_pair_text p.x p.y

-- a line that goes so far to the right and so far down: straight down, straight along, or both
abbrev pub step_text : ℤ → ℤ → List ℕ
step_text right down =
    if int_eq right (pos 0) then (codes "v" ++ signed_decimal down) else
    (if int_eq down (pos 0) then (codes "h" ++ signed_decimal right) else
    ((codes "l" ++ signed_decimal right) ++ next_text down))

-- a line from a point to another one
abbrev pub step_path : Point → Point → List ℕ
step_path p q = step_text (q.x -ℤ p.x) (q.y -ℤ p.y)

-- lines from a point to others in turn
abbrev pub steps_path : Point → List Point → List ℕ
steps_path p [] = []
steps_path p (q ∷ qs) = step_path p q ++ steps_path q qs

-- a closed ring
abbrev pub ring_path : List Point → List ℕ
ring_path [] = []
ring_path (p ∷ ps) = start_path p ++ (steps_path p ps ++ codes "z")

-- the points of a ring
abbrev pub points_of : {A : Type 0} → Vec Point A → List Point
points_of ring = ring.items

-- rings
abbrev pub rings_path : List (List Point) → List ℕ
rings_path rings = flat_map ring_path rings

-- a line between two points, nothing if it ends where it begins
abbrev pub line_path : Point → Point → List ℕ
line_path from to = if is_same from to then [] else (start_path from ++ step_path from to)
