-- How a number of so many decimals is written: as few digits as it has, and no exponent (RFC 8259, 6).
use Rattle.std.specs.Prelude.{ℕ, zero, suc, ℤ, pos, ◌-◌, ◌/◌, ◌%◌, ◌^◌, ◌==◌, int_lt, unsigned_abs, if◌then◌else◌, List, [], ◌++◌, length, replicate, codes}
use Rattle.std.specs.Fmt.{decimal}

-- so many units of 10^-k with as few decimals as they have: how many decimals these are, and how many units of the last
unfoldable pub shortest : ℕ → ℕ → ℕ × ℕ
shortest zero n = (0, n)
shortest (suc k) n = if n % 10 == 0 then shortest k (n / 10) else (suc k, n)

-- digits with zeros before them, so many in all
abbrev pub padded : ℕ → List ℕ → List ℕ
padded k digits = replicate (k - length digits) 48 ++ digits

-- what stands behind the digits of the integer: nothing, or a point and so many decimals
abbrev pub fraction_text : ℕ → ℕ → List ℕ
fraction_text zero n = []
fraction_text (suc k) n = codes "." ++ padded (suc k) (decimal n)

-- so many units of 10^-k with all k decimals
abbrev pub units_text : ℕ × ℕ → List ℕ
units_text u = decimal (u.1 / 10 ^ u.0) ++ fraction_text u.0 (u.1 % 10 ^ u.0)

abbrev pub minus_text : ℤ → List ℕ
minus_text z = if int_lt z (pos 0) then codes "-" else []

-- so many units of 10^-k, without zeros behind the fraction, and 0 without a minus
abbrev pub number_text : ℕ → ℤ → List ℕ
number_text k z = minus_text z ++ units_text (shortest k (unsigned_abs z))
