-- The sides of a segment, and which polygons hold them.
use Rattle.std.specs.Prelude.{ℕ, suc, ◌+ℤ◌, ◌%◌, ◌==◌, Bool, List, [], ◌∷◌, map, if◌then◌else◌}
use Rattle.std.specs.List.{count_by, flat_map, list_any}
use Rattle.grid_geometry.specs.Common.{Position, position, Segment, segment_eq, xor}
use Rattle.ring_machine.specs.Common.{segments, is_in_polygon}

-- a polygon: its outer ring and its holes (RFC 7946, 3.1.6)
abbrev pub Polygon : Type 0
Polygon = List (List Position)

-- the position on a grid that is twice as fine
abbrev pub doubled : Position → Position
doubled p = position (p.x +ℤ p.x) (p.y +ℤ p.y)

-- the middle of a segment, on the grid that is twice as fine
abbrev pub middle : Segment → Position
middle s = position (s.lo.x +ℤ s.hi.x) (s.lo.y +ℤ s.hi.y)

-- the side of a segment to which a way to the right leads away from it, and the other one; of a
-- horizontal segment the right side is the one above it
pub data Hand : Type 0 where
  Left : Hand
  Right : Hand

-- a side of a segment
abbrev pub Side : Type 0
Side = Segment × Hand

-- the segment bounds the polygon: it stands an odd number of times in its rings
abbrev pub is_bounding : Polygon → Segment → Bool
is_bounding polygon s = count_by (segment_eq s) (flat_map segments polygon) % 2 == 1

-- the polygon holds the middle of the segment, by the rule by which one holds a position
abbrev pub holds_middle : Polygon → Segment → Bool
holds_middle polygon s = is_in_polygon (middle s) (map (map doubled) polygon)

-- the polygon holds the side. A segment never counts for its own middle, so the middle stands for
-- a place a hair to its right; a segment that bounds the polygon parts it from what is outside
abbrev pub holds : Polygon → Side → Bool
holds polygon (s, Right) = holds_middle polygon s
holds polygon (s, Left) = xor (is_bounding polygon s) (holds_middle polygon s)

-- the numbers, ascending, of the polygons that pass the test; the first of the list has number n
abbrev pub numbers_from : ℕ → (Polygon → Bool) → List Polygon → List ℕ
numbers_from n test [] = []
numbers_from n test (p ∷ ps) =
    if test p then n ∷ numbers_from (suc n) test ps else numbers_from (suc n) test ps

-- the numbers of the polygons that the segment bounds
abbrev pub bounded : List Polygon → Segment → List ℕ
bounded polygons s = numbers_from 0 (λ p. is_bounding p s) polygons

-- the numbers of the polygons that hold the side
abbrev pub holders : List Polygon → Side → List ℕ
holders polygons a = numbers_from 0 (λ p. holds p a) polygons

-- the segment is a border of the polygons: it bounds one of them
abbrev pub is_border : List Polygon → Segment → Bool
is_border polygons s = list_any (λ p. is_bounding p s) polygons
