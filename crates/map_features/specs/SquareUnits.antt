-- Areas on the map's own scale, and how they are written.
use Rattle.std.specs.Prelude.{ℕ, zero, suc, ℤ, pos, negsuc, ◌*◌, ◌+◌, ◌-◌, ◌/◌, ◌%◌, ◌^◌, ◌+ℤ◌, ◌-ℤ◌, ◌==◌, ◌&&◌}
use Rattle.std.specs.Prelude.{Bool, true, false, nat_lt, nat_le, int_lt, min, if◌then◌else◌, List, [], ◌∷◌, ◌++◌, length, take, drop, codes, unsigned_abs}
use Rattle.std.specs.Fmt.{decimal, signed_decimal}
use Rattle.std.specs.Int.{saturate_signed, w64}
use Rattle.map_features.specs.Amounts.{grouped, half_text, zeros}
use Rattle.map_features.specs.declared.square_units.Rounded.{Rounded}
use Rattle.map_features.specs.declared.units.Unit.{Unit}
use Rattle.map_features.specs.declared.units.Unit.TheVariants.{Grid, Map, Degree}
use Rattle.map_features.specs.declared.units.Units.{Units}

-- ---- numbers of a few digits, times a power of ten

abbrev pub whole_number : ℕ → Rounded
whole_number n = record { digits = n; power = pos 0 }

-- powers are added within 64 bits
abbrev pub powers : ℤ → ℤ → ℤ
powers a b = saturate_signed w64 (a +ℤ b)

-- a number without its last digit
abbrev pub shorter : Rounded → Rounded
shorter r = record { digits = r.digits / 10; power = powers r.power (pos 1) }

-- a number without its last digit, where its digits pass, and so many times
abbrev pub cut_once : (ℕ → Bool) → Rounded → Rounded
cut_once test r = if test r.digits then shorter r else r

unfoldable pub cut_often : (ℕ → Bool) → ℕ → Rounded → Rounded
cut_often test zero r = r
cut_often test (suc n) r = cut_often test n (cut_once test r)

-- a number without its last digits, so that it is below this; no number of 128 bits has more than 40 digits
abbrev pub cut_below : ℕ → Rounded → Rounded
cut_below most r = cut_often (nat_le most) 40 r

-- a number without zeros behind its digits
abbrev pub ends_in_zero : ℕ → Bool
ends_in_zero digits = digits % 10 == 0

abbrev pub without_last_zeros : Rounded → Rounded
without_last_zeros r = cut_often ends_in_zero 40 r

abbrev pub product_of : Rounded → Rounded → Rounded
product_of a b = record { digits = min (a.digits * b.digits) (2 ^ 128 - 1); power = powers a.power b.power }

abbrev pub half_of_number : Rounded → Rounded
half_of_number r = product_of r (record { digits = 5; power = negsuc 0 })

-- ---- how they are written

abbrev pub fraction_of : List ℕ → List ℕ
fraction_of digits = if length digits == 0 then [] else 46 ∷ digits

-- digits with a decimal point after so many of them, and zeros where these are more
abbrev pub decimal_at : List ℕ → ℕ → List ℕ
decimal_at digits point =
    grouped (take (min point (length digits)) digits ++ zeros (point - min point (length digits)))
    ++ fraction_of (drop (min point (length digits)) digits)

-- digits with a decimal point after the first, times a power of ten
abbrev pub power_text : List ℕ → ℤ → List ℕ
power_text digits power = decimal_at digits 1 ++ (codes "e" ++ signed_decimal power)

-- digits with the decimal point so many of them behind the first: written out where it is near
abbrev pub digits_with_point : List ℕ → ℤ → List ℕ
digits_with_point digits point =
    if int_lt (pos 0) point && int_lt point (pos 13) then decimal_at digits (unsigned_abs point) else
    (if int_lt point (pos 1) && int_lt (negsuc 5) point then codes "0." ++ (zeros (unsigned_abs point) ++ digits) else
    power_text digits (saturate_signed w64 (point -ℤ pos 1)))

abbrev pub point_of : Rounded → ℕ → ℤ
point_of r count = if r.digits == 0 then pos 1 else powers r.power (pos count)

abbrev pub number_text : Rounded → List ℕ
number_text r = digits_with_point (decimal r.digits) (point_of r (length (decimal r.digits)))

-- ---- areas

abbrev pub is_grid : Unit → Bool
is_grid Grid = true
is_grid Map = false
is_grid Degree = false

abbrev pub square_words : Unit → List ℕ
square_words Grid = codes "areas in square grid units"
square_words Map = codes "areas in square units"
square_words Degree = codes "areas in square degrees"

-- half of twice an area of the grid, times how long a unit is across and upward, which is given in the 10^24th parts of
-- a unit of the map: from twelve digits of each, with nine
abbrev pub in_fine_parts : Units → ℤ → Rounded
in_fine_parts units twice =
    half_of_number (product_of (product_of (cut_below (10 ^ 12) (whole_number (unsigned_abs twice)))
    (cut_below (10 ^ 12) (whole_number (unsigned_abs units.across)))) (cut_below (10 ^ 12) (whole_number (unsigned_abs units.upward))))

abbrev pub square_units : Units → ℤ → Rounded
square_units units twice =
    let fine = in_fine_parts units twice in
    without_last_zeros (cut_below (10 ^ 9) (record { digits = fine.digits; power = saturate_signed w64 (fine.power -ℤ pos 48) }))

-- an area of which twice as much on the grid is this: whole_number where there is no transform and it is below 10^12
abbrev pub area_text : Units → ℤ → List ℕ
area_text units twice =
    if is_grid units.unit && nat_lt (unsigned_abs twice) (2 * 10 ^ 12) then half_text (unsigned_abs twice)
    else number_text (square_units units twice)
