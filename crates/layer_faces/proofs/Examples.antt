-- Worked examples: small layers, their faces and sums.
use Rattle.kit_words.proofs.Common.{◌≡◌, ℕ, ℤ, refl, pos, neg_ℤ, ◌-◌, ◌*◌, ◌^◌, ◌*ℤ◌, List, [], ◌∷◌, map, length}
use Rattle.std.specs.Prelude.{if◌then◌else◌, filter, fold}
use Rattle.grid_geometry.specs.Common.{Position, position, Segment, segment, segment_eq, segment_lt, orientation}
use Rattle.ring_machine.specs.Common.{polygon_area}
use Rattle.layer_sides.specs.Common.{Polygon, Side, Left, Right, holds, holders, is_border, segments_in}
use Rattle.layer_faces.specs.declared.kind.Kind.TheVariants.{Overlap, Twice, Gap, Lake, Land}
use Rattle.layer_faces.specs.Common.{all_sides, area_at, side_ends, side_term, total, border_length, root, width_of}
use Rattle.layer_faces.specs.Common.{beside, is_held, kind_of}
use Rattle.layer_faces.specs.Kept.{apart}

abbrev at : ℕ → ℕ → Position
at x y = position (pos x) (pos y)

abbrev seg : ℕ → ℕ → ℕ → ℕ → Segment
seg a b c d = segment (at a b) (at c d)

-- a polygon of one ring
abbrev of_ring : List Position → Polygon
of_ring ring = ring ∷ []

-- the ring of a square
abbrev box : ℕ → ℕ → ℕ → ℕ → List Position
box a b c d = at a b ∷ at c b ∷ at c d ∷ at a d ∷ []

-- ascending segments with s in its place, each once
abbrev add_segment : List Segment → Segment → List Segment
add_segment [] s = s ∷ []
add_segment (t ∷ ts) s =
    if segment_lt s t then (s ∷ t ∷ ts) else (if segment_eq s t then (t ∷ ts) else (t ∷ add_segment ts s))

abbrev borders : List Polygon → List Segment
borders polygons = filter (is_border polygons) (fold add_segment [] (segments_in polygons))

-- the sums of a layer: of its polygons, what is held too often, and what is held
abbrev summed : List Polygon → List ℤ
summed polygons =
    total (λ p. area_at (holds p) (borders polygons)) polygons
    ∷ total (λ a. pos (length (holders polygons a) - 1) *ℤ side_term a) (all_sides (borders polygons))
    ∷ area_at (is_held polygons) (borders polygons)
    ∷ []

-- ---- two squares with a common side

abbrev beside_each_other : List Polygon
beside_each_other = of_ring (box 0 0 10 10) ∷ of_ring (box 10 0 20 10) ∷ []

nothing_told : summed beside_each_other ≡ pos 400 ∷ pos 0 ∷ pos 400 ∷ []
unfolding orientation
nothing_told = refl

-- ---- an overlap from x 9 to x 10, four of the sides of which lie in it

abbrev overlapping : List Polygon
overlapping =
    of_ring (at 0 0 ∷ at 9 0 ∷ at 10 0 ∷ at 10 10 ∷ at 9 10 ∷ at 0 10 ∷ [])
    ∷ of_ring (at 9 0 ∷ at 10 0 ∷ at 20 0 ∷ at 20 10 ∷ at 10 10 ∷ at 9 10 ∷ [])
    ∷ []

abbrev in_overlap : List Side
in_overlap =
    (seg 9 0 9 10, Right) ∷ (seg 9 0 10 0, Right) ∷ (seg 9 10 10 10, Left) ∷ (seg 10 0 10 10, Left) ∷ []

held_by_both : map (holders overlapping) in_overlap
    ≡ (0 ∷ 1 ∷ []) ∷ (0 ∷ 1 ∷ []) ∷ (0 ∷ 1 ∷ []) ∷ (0 ∷ 1 ∷ []) ∷ []
unfolding orientation
held_by_both = refl

overlap_told : kind_of (0 ∷ 1 ∷ []) (0 ∷ 1 ∷ []) ≡ Overlap
overlap_told = refl

-- by its least side, 9 10 to 9 0
overlap_named : side_ends (seg 9 0 9 10, Right) ≡ (at 9 10, at 9 0)
overlap_named = refl

overlap_area : total side_term in_overlap ≡ pos 20
overlap_area = refl

-- 22 units: the roots of whole squares are whole
overlap_length : border_length in_overlap ≡ 1441792
unfolding root
overlap_length = refl

-- 20 by 22, rounded up
overlap_width : width_of (pos 20) 1441792 ≡ 1
overlap_width = refl

overlap_sums : summed overlapping ≡ pos 420 ∷ pos 20 ∷ pos 400 ∷ []
unfolding orientation
overlap_sums = refl

-- ---- a gap from x 9 to x 10 between four

abbrev with_gap : List Polygon
with_gap =
    of_ring (box 0 0 9 10)
    ∷ of_ring (box 10 0 20 10)
    ∷ of_ring (position (pos 0) (neg_ℤ (pos 5)) ∷ position (pos 20) (neg_ℤ (pos 5)) ∷ at 20 0 ∷ at 10 0 ∷ at 9 0 ∷ at 0 0 ∷ [])
    ∷ of_ring (at 0 10 ∷ at 9 10 ∷ at 10 10 ∷ at 20 10 ∷ at 20 15 ∷ at 0 15 ∷ [])
    ∷ []

held_by_none : map (holders with_gap) in_overlap ≡ [] ∷ [] ∷ [] ∷ [] ∷ []
unfolding orientation
held_by_none = refl

-- the first square, the third below, the fourth above, and the second square
beside_gap : beside with_gap in_overlap ≡ 0 ∷ 2 ∷ 3 ∷ 1 ∷ []
unfolding orientation
beside_gap = refl

gap_told : kind_of [] (0 ∷ 1 ∷ 2 ∷ 3 ∷ []) ≡ Gap
gap_told = refl

gap_sums : summed with_gap ≡ pos 780 ∷ pos 0 ∷ pos 780 ∷ []
unfolding orientation
gap_sums = refl

-- ---- the same without the two below and above is open to the outside

notch_sums : summed (of_ring (box 0 0 9 10) ∷ of_ring (box 10 0 20 10) ∷ [])
    ≡ pos 380 ∷ pos 0 ∷ pos 380 ∷ []
unfolding orientation
notch_sums = refl

-- ---- a square upon another

abbrev upon : List Polygon
upon = of_ring (box 0 0 20 20) ∷ of_ring (box 5 5 10 10) ∷ []

-- the inner sides of the square from 5 5 to 10 10
abbrev inner : List Side
inner = (seg 5 5 5 10, Right) ∷ (seg 5 5 10 5, Right) ∷ (seg 5 10 10 10, Left) ∷ (seg 10 5 10 10, Left) ∷ []

upon_area : total side_term inner ≡ pos 50
upon_area = refl

-- 50 by 20, rounded up
upon_width : width_of (total side_term inner) (border_length inner) ≡ 3
unfolding root
upon_width = refl

upon_sums : summed upon ≡ pos 850 ∷ pos 50 ∷ pos 800 ∷ []
unfolding orientation
upon_sums = refl

-- ---- a hole that nothing fills

abbrev with_hole : List Polygon
with_hole = (box 0 0 20 20 ∷ (at 5 5 ∷ at 5 10 ∷ at 10 10 ∷ at 10 5 ∷ []) ∷ []) ∷ []

beside_hole : beside with_hole inner ≡ 0 ∷ 0 ∷ 0 ∷ 0 ∷ []
unfolding orientation
beside_hole = refl

lake_told : kind_of [] (0 ∷ []) ≡ Lake
lake_told = refl

hole_sums : summed with_hole ≡ pos 750 ∷ pos 0 ∷ pos 750 ∷ []
unfolding orientation
hole_sums = refl

-- ---- one square, twice

twice_sums : summed (of_ring (box 0 0 10 10) ∷ of_ring (box 0 0 10 10) ∷ [])
    ≡ pos 400 ∷ pos 200 ∷ pos 200 ∷ []
unfolding orientation
twice_sums = refl

-- ---- two polygons of one feature overlap

twice_told : kind_of (0 ∷ 1 ∷ []) (0 ∷ []) ≡ Twice
twice_told = refl

land_told : kind_of (1 ∷ []) (0 ∷ []) ≡ Land
land_told = refl

-- ---- a hole outside its outer ring: 0 by the rings, and 400 by the even-odd rule

abbrev hole_outside : Polygon
hole_outside = box 0 0 10 10 ∷ box 20 0 30 10 ∷ []

uneven_by_rings : polygon_area hole_outside ≡ pos 0
uneven_by_rings = refl

uneven_even_odd : area_at (holds hole_outside) (borders (hole_outside ∷ [])) ≡ pos 400
unfolding orientation
uneven_even_odd = refl

-- ---- roots, and numbers in one list alone

root_of_two : root 58 (2 * 2 ^ 32) ≡ 92681
unfolding root
root_of_two = refl

in_one_alone : apart (1 ∷ 3 ∷ 4 ∷ []) (0 ∷ 3 ∷ 5 ∷ []) ≡ 0 ∷ 1 ∷ 4 ∷ 5 ∷ []
in_one_alone = refl
