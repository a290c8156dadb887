-- A number of a JSON text (RFC 8259, 6) as a decimal: its sign, its digits, and its exponent. Defined
-- for any bytes.
use Rattle.std.specs.Prelude.{ℕ, ℤ, pos, ◌&&◌, ◌==◌, Bool, true, false, nat_le, nat_lt, if◌then◌else◌, List, [], ◌∷◌, length, take, drop, Option, Some, None, option_map}
use Rattle.json_spans.specs.Common.{is_e, value_from, digits_len}
use Rattle.json_spans.specs.Whole.{minus}

-- the digits before the point and after it, and the power of ten that they are multiplied by
pub record Parts : Type 0 where
  pub is_negative : Bool
  pub integer : List ℕ
  pub fraction : List ℕ
  pub exponent : ℤ

-- the digits at the start, and what follows them
abbrev pub digits_of : List ℕ → List ℕ
digits_of xs = take (digits_len xs) xs

abbrev pub behind_digits : List ℕ → List ℕ
behind_digits xs = drop (digits_len xs) xs

-- all are digits, one to three of them, and mean this number
abbrev pub small : List ℕ → Option ℕ
small xs =
    if nat_lt 0 (length xs) && nat_le (length xs) 3 && (digits_len xs == length xs)
    then Some (value_from 0 xs) else None

-- digits, perhaps after a plus or a minus
abbrev pub signed_small : List ℕ → Option ℤ
signed_small [] = None
signed_small (x ∷ xs) =
    if x == 45 then option_map minus (small xs)
    else (if x == 43 then option_map pos (small xs) else option_map pos (small (x ∷ xs)))

-- nothing, or an e and a number of at most three digits
abbrev pub exponent_of : List ℕ → Option ℤ
exponent_of [] = Some (pos 0)
exponent_of (x ∷ xs) = if is_e x then signed_small xs else None

-- with these digits before the point, and this after them
abbrev pub with_exponent : Bool → List ℕ → List ℕ → Option ℤ → Option Parts
with_exponent sign integer fraction None = None
with_exponent sign integer fraction (Some e) = Some (record {
  is_negative = sign;
  integer = integer;
  fraction = fraction;
  exponent = e;
})

-- what follows the digits before the point: a point and digits, perhaps, and an exponent
abbrev pub behind_integer : Bool → List ℕ → List ℕ → Option Parts
behind_integer sign integer [] = with_exponent sign integer [] (exponent_of [])
behind_integer sign integer (x ∷ xs) =
    if x == 46
    then (if nat_lt 0 (digits_len xs)
    then with_exponent sign integer (digits_of xs) (exponent_of (behind_digits xs))
    else None)
    else with_exponent sign integer [] (exponent_of (x ∷ xs))

-- without its sign
abbrev pub unsigned : Bool → List ℕ → Option Parts
unsigned sign xs =
    if nat_lt 0 (digits_len xs) then behind_integer sign (digits_of xs) (behind_digits xs) else None

-- the parts of a number whose exponent has at most three digits
abbrev pub parts_of : List ℕ → Option Parts
parts_of [] = None
parts_of (x ∷ xs) = if x == 45 then unsigned true xs else unsigned false (x ∷ xs)
