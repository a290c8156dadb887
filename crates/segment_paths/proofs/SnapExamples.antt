-- Worked examples: unit squares that a segment meets or misses, and crossings rounded to the grid.
use Rattle.kit_words.proofs.Common.{◌≡◌, ℕ, pos, negsuc, true, false, refl, arith, ints}
use Rattle.grid_geometry.specs.Common.{Position, position, Segment, segment, orientation}
use Rattle.segment_paths.specs.Common.{is_near, is_above_falling, meets_square, along, IsRounded, IsRoundedCrossing}
use Rattle.segment_paths.specs.Common.{beside_lesser_end, whole}

abbrev at : ℕ → ℕ → Position
at x y = position (pos x) (pos y)

abbrev seg : ℕ → ℕ → ℕ → ℕ → Segment
seg a b c d = segment (at a b) (at c d)

-- ---- unit squares

-- 2 1 is a quarter of a unit above the segment, where half of 5 / 4 may be between
near : is_near (at 2 1) (seg 0 0 4 1) ≡ true
unfolding is_near orientation
near = refl

-- 1 1 is further by one step: twice 3 against 5
beside : is_near (at 1 1) (seg 0 0 4 1) ≡ false
unfolding is_near orientation
beside = refl

-- a vertex of another border, half a unit below the segment
a_neighbour : is_near (at 10 8) (seg 0 10 20 7) ≡ true
unfolding is_near orientation
a_neighbour = refl

-- a square that the segment touches in a corner
in_a_corner : is_near (at 1 0) (seg 0 0 1 1) ≡ true
unfolding is_near orientation
in_a_corner = refl

-- on the line of the segment, and past its end
past_the_end : is_near (at 3 3) (seg 0 0 2 2) ≡ false
unfolding is_near orientation
past_the_end = refl

an_end : is_near (at 2 2) (seg 0 0 2 2) ≡ true
unfolding is_near orientation
an_end = refl

-- ---- half-open squares

-- more than a corner
met : meets_square (seg 0 0 4 1) (at 2 1) ≡ true
unfolding meets_square is_near is_above_falling orientation
met = refl

-- the lower left corner of the square around 1 1 is on the segment from 0 1 to 1 0
lower_left : meets_square (seg 0 1 1 0) (at 1 1) ≡ true
unfolding meets_square is_near is_above_falling orientation
lower_left = refl

-- and the upper right corner of that around 0 0, which the square is without
upper_right : meets_square (seg 0 1 1 0) (at 0 0) ≡ false
unfolding meets_square is_near is_above_falling orientation
upper_right = refl

-- a segment that rises touches the other two corners, which neither square has
lower_right : meets_square (seg 0 0 1 1) (at 0 1) ≡ false
unfolding meets_square is_near is_above_falling orientation
lower_right = refl

upper_left : meets_square (seg 0 0 1 1) (at 1 0) ≡ false
unfolding meets_square is_near is_above_falling orientation
upper_left = refl

-- ---- along a segment

along_falling : along (seg 0 10 20 7) (at 5 9) ≡ pos 103
unfolding along
along_falling = refl

along_from_its_lesser_end : along (seg 0 10 20 7) (at 0 10) ≡ pos 0
unfolding along
along_from_its_lesser_end = refl

along_before_its_lesser_end : along (seg 1 0 3 0) (at 0 5) ≡ negsuc 1
unfolding along
along_before_its_lesser_end = refl

-- ---- roundings

-- 5 / 2 is 3, and -5 / 2 is -2
half_up : IsRounded (pos 5) 2 (pos 3)
half_up = record { least = omega (arith, ints); most = omega (arith, ints) }

half_up_below_zero : IsRounded (negsuc 4) 2 (negsuc 1)
half_up_below_zero = record { least = omega (arith, ints); most = omega (arith, ints) }

not_half_down : IsRounded (pos 5) 2 (pos 2) → ⊥
not_half_down r = let h = r.most in omega (arith, ints)

-- ---- crossings

-- a quarter of the way, at the height 9 1/4
between_vertices : IsRoundedCrossing (seg 0 10 20 7) (seg 5 8 5 20) (at 5 9)
unfolding orientation
between_vertices = record {
  across = record { least = omega (arith, ints); most = omega (arith, ints) };
  upward = record { least = omega (arith, ints); most = omega (arith, ints) };
}

a_quarter : beside_lesser_end (seg 0 10 20 7) (seg 5 8 5 20) ≡ 60
unfolding orientation
a_quarter = refl

of_the_way : whole (seg 0 10 20 7) (seg 5 8 5 20) ≡ 240
unfolding orientation
of_the_way = refl

-- at the width 13 1/3
other_way_round : IsRoundedCrossing (seg 5 8 30 8) (seg 0 10 20 7) (at 13 8)
unfolding orientation
other_way_round = record {
  across = record { least = omega (arith, ints); most = omega (arith, ints) };
  upward = record { least = omega (arith, ints); most = omega (arith, ints) };
}

-- in the middle, at the height 8 1/2
beside_a_vertex : IsRoundedCrossing (seg 0 10 20 7) (seg 10 8 10 20) (at 10 9)
unfolding orientation
beside_a_vertex = record {
  across = record { least = omega (arith, ints); most = omega (arith, ints) };
  upward = record { least = omega (arith, ints); most = omega (arith, ints) };
}

-- in the middle of a cell, from whichever end
middle : IsRoundedCrossing (seg 0 0 1 1) (seg 0 1 1 0) (at 1 1)
unfolding orientation
middle = record {
  across = record { least = omega (arith, ints); most = omega (arith, ints) };
  upward = record { least = omega (arith, ints); most = omega (arith, ints) };
}

middle_of_the_falling : IsRoundedCrossing (seg 0 1 1 0) (seg 0 0 1 1) (at 1 1)
unfolding orientation
middle_of_the_falling = record {
  across = record { least = omega (arith, ints); most = omega (arith, ints) };
  upward = record { least = omega (arith, ints); most = omega (arith, ints) };
}
