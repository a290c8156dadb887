-- Worked examples: levels, sides, and which polygons hold them.
use Rattle.kit_words.proofs.Common.{◌≡◌, ℕ, true, false, refl, pos, List, [], ◌∷◌}
use Rattle.grid_geometry.specs.Common.{Position, position, Segment, segment, orientation}
use Rattle.layer_sides.specs.Common.{bottom, top, level_lt, is_under_way, middle, Polygon, Left, Right, holds, holders, bounded}
use Rattle.layer_sides.specs.Common.{is_border, Bordering, is_odd_at}

abbrev at : ℕ → ℕ → Position
at x y = position (pos x) (pos y)

abbrev seg : ℕ → ℕ → ℕ → ℕ → Segment
seg a b c d = segment (at a b) (at c d)

-- ---- levels

-- what is lower comes first, and at one height what is further to the right
first_below : level_lt (at 9 1) (at 0 2) ≡ true
first_below = refl

first_right : level_lt (at 9 1) (at 0 1) ≡ true
first_right = refl

not_itself : level_lt (at 9 1) (at 9 1) ≡ false
not_itself = refl

-- a segment that falls to the right begins at its right end
falling-bottom : bottom (seg 0 5 9 1) ≡ at 9 1
falling-bottom = refl

falling-top : top (seg 0 5 9 1) ≡ at 0 5
falling-top = refl

-- a horizontal one begins at its right end too
flat-bottom : bottom (seg 0 3 9 3) ≡ at 9 3
flat-bottom = refl

flat-top : top (seg 0 3 9 3) ≡ at 0 3
flat-top = refl

-- a segment is under way at its bottom and no more at its top
begins : is_under_way (at 9 3) (seg 0 3 9 3) ≡ true
begins = refl

goes_on : is_under_way (at 5 3) (seg 0 3 9 3) ≡ true
goes_on = refl

ends : is_under_way (at 0 3) (seg 0 3 9 3) ≡ false
ends = refl

-- further to the right at its height it has not begun
not_yet : is_under_way (at 12 3) (seg 0 3 9 3) ≡ false
not_yet = refl

-- ---- a square

abbrev square : ℕ → ℕ → ℕ → ℕ → List Position
square x0 y0 x1 y1 = at x0 y0 ∷ at x1 y0 ∷ at x1 y1 ∷ at x0 y1 ∷ []

abbrev one : List Polygon
one = (square 0 0 10 10 ∷ []) ∷ []

middle-odd : middle (seg 0 0 5 3) ≡ at 5 3
middle-odd = refl

-- its left edge is held from the right, its right edge from the left
left_edge-right : holders one (seg 0 0 0 10, Right) ≡ (0 ∷ [])
unfolding orientation
left_edge-right = refl

left_edge-left : holders one (seg 0 0 0 10, Left) ≡ []
unfolding orientation
left_edge-left = refl

right_edge-right : holders one (seg 10 0 10 10, Right) ≡ []
unfolding orientation
right_edge-right = refl

right_edge-left : holders one (seg 10 0 10 10, Left) ≡ (0 ∷ [])
unfolding orientation
right_edge-left = refl

-- the right side of a horizontal segment is above it: the bottom is held from there, the top from below
bottom-right : holders one (seg 0 0 10 0, Right) ≡ (0 ∷ [])
unfolding orientation
bottom-right = refl

bottom-left : holders one (seg 0 0 10 0, Left) ≡ []
unfolding orientation
bottom-left = refl

top-right : holders one (seg 0 10 10 10, Right) ≡ []
unfolding orientation
top-right = refl

top-left : holders one (seg 0 10 10 10, Left) ≡ (0 ∷ [])
unfolding orientation
top-left = refl

-- ---- two squares side by side

abbrev beside : List Polygon
beside = (square 0 0 10 10 ∷ []) ∷ (square 10 0 20 10 ∷ []) ∷ []

common-bounds : bounded beside (seg 10 0 10 10) ≡ (0 ∷ 1 ∷ [])
common-bounds = refl

common-left : holders beside (seg 10 0 10 10, Left) ≡ (0 ∷ [])
unfolding orientation
common-left = refl

common-right : holders beside (seg 10 0 10 10, Right) ≡ (1 ∷ [])
unfolding orientation
common-right = refl

own-bounds : bounded beside (seg 20 0 20 10) ≡ (1 ∷ [])
own-bounds = refl

not_there : is_border beside (seg 5 0 5 10) ≡ false
not_there = refl

-- ---- an overlap: the second begins at 9 and the first ends at 10

abbrev overlapping : List Polygon
overlapping = ((at 0 0 ∷ at 9 0 ∷ at 10 0 ∷ at 10 10 ∷ at 9 10 ∷ at 0 10 ∷ []) ∷ [])
    ∷ ((at 9 0 ∷ at 10 0 ∷ at 20 0 ∷ at 20 10 ∷ at 10 10 ∷ at 9 10 ∷ []) ∷ []) ∷ []

both_hold : holders overlapping (seg 9 0 9 10, Right) ≡ (0 ∷ 1 ∷ [])
unfolding orientation
both_hold = refl

one_holds : holders overlapping (seg 9 0 9 10, Left) ≡ (0 ∷ [])
unfolding orientation
one_holds = refl

both_above : holders overlapping (seg 9 0 10 0, Right) ≡ (0 ∷ 1 ∷ [])
unfolding orientation
both_above = refl

none_below : holders overlapping (seg 9 0 10 0, Left) ≡ []
unfolding orientation
none_below = refl

-- ---- a hole

abbrev with_hole : Polygon
with_hole = square 0 0 20 20 ∷ square 5 5 10 10 ∷ []

hole-inside : holds with_hole (seg 5 5 5 10, Right) ≡ false
unfolding orientation
hole-inside = refl

hole-outside : holds with_hole (seg 5 5 5 10, Left) ≡ true
unfolding orientation
hole-outside = refl

-- a polygon that fills the hole
abbrev filled : List Polygon
filled = with_hole ∷ (square 5 5 10 10 ∷ []) ∷ []

filled-inside : holders filled (seg 5 5 5 10, Right) ≡ (1 ∷ [])
unfolding orientation
filled-inside = refl

filled-outside : holders filled (seg 5 5 5 10, Left) ≡ (0 ∷ [])
unfolding orientation
filled-outside = refl

-- ---- a hole that shares a segment with its outer ring

abbrev open_hole : List Polygon
open_hole = ((at 0 0 ∷ at 20 0 ∷ at 20 5 ∷ at 20 15 ∷ at 20 20 ∷ at 0 20 ∷ [])
    ∷ (at 10 5 ∷ at 10 15 ∷ at 20 15 ∷ at 20 5 ∷ []) ∷ []) ∷ []

-- it stands twice, so it bounds nothing
twice-bounds_nothing : is_border open_hole (seg 20 5 20 15) ≡ false
twice-bounds_nothing = refl

others-bound : bounded open_hole (seg 10 5 10 15) ≡ (0 ∷ [])
others-bound = refl

twice-left : holders open_hole (seg 20 5 20 15, Left) ≡ []
unfolding orientation
twice-left = refl

twice-right : holders open_hole (seg 20 5 20 15, Right) ≡ []
unfolding orientation
twice-right = refl

-- ---- by the borders alone

abbrev border : ℕ → ℕ → ℕ → ℕ → List ℕ → Bordering
border a b c d ns = record { segment = seg a b c d; bounds = ns; right = [] }

abbrev borders_beside : List Bordering
borders_beside = border 0 0 0 10 (0 ∷ []) ∷ border 0 0 10 0 (0 ∷ []) ∷ border 0 10 10 10 (0 ∷ []) ∷ border 10 0 10 10 (0 ∷ 1 ∷ [])
    ∷ border 10 0 20 0 (1 ∷ []) ∷ border 10 10 20 10 (1 ∷ []) ∷ border 20 0 20 10 (1 ∷ []) ∷ []

-- from the middle of the left edge a way to the right passes one border of the first, two of the second
passes_one : is_odd_at borders_beside 0 (middle (seg 0 0 0 10)) ≡ true
unfolding orientation
passes_one = refl

passes_two : is_odd_at borders_beside 1 (middle (seg 0 0 0 10)) ≡ false
unfolding orientation
passes_two = refl
