-- A number of a JSON text (RFC 8259, 6) as a whole number times a power of ten, and in units of its last decimal.
use Rattle.std.specs.Prelude.{ℕ, ℤ, pos, negsuc, ◌*◌, ◌^◌, ◌-◌, ◌+ℤ◌, ◌-ℤ◌, ◌==◌, Bool, if◌then◌else◌, List, ◌++◌, length, reverse, take, take_while}
use Rattle.json_spans.specs.Common.{is_zero, value_from}
use Rattle.json_spans.specs.Whole.{minus}
use Rattle.decimal_texts.specs.Common.{Parts}

-- how many zeros stand behind digits
abbrev pub zeros_at_end : List ℕ → ℕ
zeros_at_end ds = length (take_while is_zero (reverse ds))

-- digits without the zeros behind them
abbrev pub without_zeros_behind : List ℕ → List ℕ
without_zeros_behind ds = take (length ds - zeros_at_end ds) ds

-- all digits of a number, without the zeros behind them
abbrev pub significant : Parts → List ℕ
significant p = without_zeros_behind (p.integer ++ p.fraction)

-- the whole number that these digits are
abbrev pub size_of : Parts → ℕ
size_of p = value_from 0 (significant p)

-- the power of ten that it is multiplied by: the exponent, one more for each digit of the integer that was left out,
-- and one less for each digit of the fraction that was not
abbrev pub power_of : Parts → ℤ
power_of p = (p.exponent +ℤ pos (length p.integer)) -ℤ pos (length (significant p))

-- a number, and 0 in the place of a negative one
abbrev pub at_least_zero : ℤ → ℕ
at_least_zero (pos n) = n
at_least_zero (negsuc n) = 0

-- how many decimals a number has, zeros behind them left out
abbrev pub decimals_of : Parts → ℕ
decimals_of p = if size_of p == 0 then 0 else at_least_zero (pos 0 -ℤ power_of p)

abbrev pub with_sign : Bool → ℕ → ℤ
with_sign is_negative n = if is_negative then minus n else pos n

-- a number of at most so many decimals, in units of the last of them
abbrev pub units_of : ℕ → Parts → ℤ
units_of decimals p =
    with_sign p.is_negative (size_of p * 10 ^ at_least_zero (pos decimals +ℤ power_of p))
