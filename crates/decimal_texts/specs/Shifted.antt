-- A decimal divided by a power of ten, as a number of a JSON text (RFC 8259, 6).
use Rattle.std.specs.Prelude.{ℕ, pos, ◌-ℤ◌, ◌==◌, Bool, if◌then◌else◌, List, [], ◌++◌, length, drop, codes}
use Rattle.std.specs.List.{prefix_len}
use Rattle.std.specs.Fmt.{signed_decimal}
use Rattle.json_spans.specs.Common.{is_zero}
use Rattle.decimal_texts.specs.Decimal.{Parts}

-- the digits without the zeros before them
abbrev pub without_zeros : List ℕ → List ℕ
without_zeros ds = drop (prefix_len is_zero ds) ds

-- digits, or one 0 for none
abbrev pub or_zero : List ℕ → List ℕ
or_zero ds = if length ds == 0 then codes "0" else ds

abbrev pub sign_text : Bool → List ℕ
sign_text is_negative = if is_negative then codes "-" else []

-- all digits without zeros before them, and the power of ten: 0.0001 divided by 10 is 1e-5
abbrev pub shifted_text : ℕ → Parts → List ℕ
shifted_text k p =
    sign_text p.is_negative ++ (or_zero (without_zeros (p.integer ++ p.fraction))
    ++ (codes "e" ++ signed_decimal ((p.exponent -ℤ pos (length p.fraction)) -ℤ pos k)))
