-- Coordinates as decimals, worked out.
use Rattle.kit_words.proofs.Common.{refl, arith, ◌≡◌, ℕ, ℤ, pos, negsuc, ◌*◌, List, Option, Some, option_map, codes}
use Rattle.kit_words.proofs.Common.{digits}
use Rattle.json_spans.specs.Common.{value_from}
use Rattle.decimal_texts.specs.Common.{parts_of}
use Rattle.grid_decimals.specs.Common.{IsNear, IsReadBack, decimals_of, fewest, nearest, number_text}
use Rattle.grid_decimals.specs.Common.{shortest, units_of}

-- ---- numbers of a transform

abbrev decimals_in : List ℕ → Option ℕ
decimals_in text = option_map decimals_of (parts_of text)

abbrev units_in : ℕ → List ℕ → Option ℤ
units_in d text = option_map (units_of d) (parts_of text)

many_decimals : decimals_in (codes "0.0003600036000360004") ≡ Some 19
unfolding value_from
many_decimals = refl

zeros_left_out : decimals_in (codes "-180.0") ≡ Some 0
unfolding value_from
zeros_left_out = refl

by_exponent : decimals_in (codes "1e-1") ≡ Some 1
unfolding value_from
by_exponent = refl

no_decimals_of_zero : decimals_in (codes "0.0e-9") ≡ Some 0
unfolding value_from
no_decimals_of_zero = refl

in_hundredths : units_in 2 (codes "-0.050") ≡ Some (negsuc 4)
unfolding value_from
in_hundredths = refl

tens_in_tenths : units_in 1 (codes "1e1") ≡ Some (pos 100)
unfolding value_from
tens_in_tenths = refl

-- ---- the nearest

halves_up : nearest 1 0 (pos 15) ≡ pos 2
halves_up = refl

halves_up_below_zero : nearest 1 0 (negsuc 44) ≡ negsuc 3
halves_up_below_zero = refl

all_decimals : nearest 2 2 (negsuc 4) ≡ negsuc 4
all_decimals = refl

-- ---- how many decimals

-- a scale of 3600036000360004 units of 10^-19: four decimals keep positions apart, and six vertices on their sides
-- where no segment is longer than 20
apart : fewest 19 1 3600036000360004 ≡ 4
unfolding fewest
apart = refl

on_their_sides : fewest 19 (16 * 20) 3600036000360004 ≡ 6
unfolding fewest
on_their_sides = refl

-- a scale of one unit has none to spare
all_of_them : fewest 1 (16 * 20) 1 ≡ 1
unfolding fewest
all_of_them = refl

-- ---- written

a_half : number_text 1 (pos 5) ≡ codes "0.5"
unfolding digits shortest
a_half = refl

without_zeros : number_text 3 (pos 1500) ≡ codes "1.5"
unfolding digits shortest
without_zeros = refl

below_zero : number_text 2 (negsuc 4) ≡ codes "-0.05"
unfolding digits shortest
below_zero = refl

whole : number_text 2 (pos 1000) ≡ codes "10"
unfolding digits shortest
whole = refl

zero_without_minus : number_text 4 (pos 0) ≡ codes "0"
unfolding digits shortest
zero_without_minus = refl

-- ---- and read again

back_below_zero : IsReadBack 2 (negsuc 4)
unfolding digits shortest value_from
back_below_zero = refl

back_without_zeros : IsReadBack 3 (pos 1500)
unfolding digits shortest value_from
back_without_zeros = refl

back_whole : IsReadBack 2 (pos 1000)
unfolding digits shortest value_from
back_whole = refl

back_zero : IsReadBack 4 (pos 0)
unfolding digits shortest value_from
back_zero = refl

-- ---- near

-- a third of the way is rounded down, and two thirds up
near_below : IsNear 2 0 (pos 133)
near_below = omega arith

near_above : IsNear 2 0 (negsuc 166)
near_above = omega arith
