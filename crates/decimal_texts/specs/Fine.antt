-- Decimals as whole numbers of units of 10^-24, and those rounded to fewer decimals.
use Rattle.std.specs.Prelude.{ℕ, zero, suc, ℤ, pos, negsuc, ◌+◌, ◌-◌, ◌*◌, ◌^◌, ◌+ℤ◌, ◌*ℤ◌, unsigned_abs, ◌==◌, ◌%◌, ◌/◌, Bool, not, if◌then◌else◌, List, ◌++◌, length, take, drop}
use Rattle.std.specs.List.{list_all}
use Rattle.std.specs.Int.{int_div_euclid}
use Rattle.json_spans.specs.Common.{value_from, is_zero}
use Rattle.json_spans.specs.Whole.{minus}
use Rattle.decimal_texts.specs.Decimal.{Parts}

-- 0 in the place of a negative number
abbrev pub at_least_zero : ℤ → ℕ
at_least_zero (pos n) = n
at_least_zero (negsuc n) = 0

-- how many digits stand up to the 24th decimal, zeros after the last digit among them
abbrev pub reach : Parts → ℕ
reach p = at_least_zero ((pos (length p.integer) +ℤ p.exponent) +ℤ pos 24)

-- the number that so many first digits are, zeros after the last digit among them
abbrev pub first_digits : ℕ → List ℕ → ℕ
first_digits n ds = value_from 0 (take n ds) * 10 ^ (n - length ds)

-- 1 where a digit after so many others is not 0
abbrev pub one_if_more : ℕ → List ℕ → ℕ
one_if_more n ds = if list_all is_zero (drop n ds) then 0 else 1

-- the units of 10^-24 in a number, rounded down
abbrev pub fine : Parts → ℤ
fine p =
    if p.is_negative
    then minus (first_digits (reach p) (p.integer ++ p.fraction)
    + one_if_more (reach p) (p.integer ++ p.fraction))
    else pos (first_digits (reach p) (p.integer ++ p.fraction))

-- ---- fewer decimals

-- how many zeros stand at the end of a number, of at most so many
unfoldable pub zeros_behind : ℕ → ℕ → ℕ
zeros_behind zero n = 0
zeros_behind (suc most) n = if n % 10 == 0 then suc (zeros_behind most (n / 10)) else 0

-- how many decimals so many units have: the least number of them
abbrev pub decimals : ℤ → ℕ
decimals z = 24 - zeros_behind 24 (unsigned_abs z)

-- so many units, as units of 10^-k, rounded to the nearest, and halves up
abbrev pub rounded : ℕ → ℤ → ℤ
rounded k z = int_div_euclid (pos 2 *ℤ z +ℤ pos (10 ^ (24 - k))) (pos (2 * 10 ^ (24 - k)))

-- whether rounding changes them
abbrev pub is_rounded : ℕ → ℤ → Bool
is_rounded k z = not (unsigned_abs z % 10 ^ (24 - k) == 0)
