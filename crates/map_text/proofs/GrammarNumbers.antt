-- A written whole number is a JSON number, and is read as it was.
use Rattle.kit_words.proofs.Common.{◌≡◌, ℕ, zero, suc, ◌+◌, ◌-◌, ◌<◌, ◌≤◌, ◌/◌, ◌%◌, ◌^◌, true, refl, subst, List, []}
use Rattle.kit_words.proofs.Common.{◌∷◌, ◌++◌, arith, ℤ, pos, negsuc, unsigned_abs, signed_decimal, decimal_by_steps}
use Rattle.kit_words.proofs.Common.{nat_tests, append-nil}
use Rattle.std.specs.Fmt.{decimal}
use Rattle.json_spans.specs.Common.{is_digit, is_nonzero, Digits, no_digit, digit, SomeDigits, digits, no_exponent}
use Rattle.json_spans.specs.Common.{no_fraction, Unsigned, zero_first, digit_first, minus, plain_number, number}
use Rattle.json_spans.specs.Whole.{value_from, no_point, IsWhole, plain, negative, minus as minus_of}
use Rattle.topo_outline.specs.Common.{IsJson}
use Rattle.topo_reader.proofs.PlainNumbers.{one_more}

-- ---- digits

digit_ok : (d : ℕ) → d < 10 → is_digit (48 + d) ≡ true
digit_ok d h = grind (arith, nat_tests)

nonzero_ok : (d : ℕ) → 0 < d → d < 10 → is_nonzero (48 + d) ≡ true
nonzero_ok d h k = grind (arith, nat_tests)

digits_push : {xs : List ℕ} (y : ℕ) → is_digit y ≡ true → Digits xs [] → Digits (xs ++ y ∷ []) []
digits_push y e no_digit = digit {x = y} e no_digit
digits_push y e (digit {x = x} f d) = digit {x = x} f (digits_push y e d)

some_push : {xs : List ℕ} (y : ℕ) → is_digit y ≡ true → SomeDigits xs [] → SomeDigits (xs ++ y ∷ []) []
some_push y e (digits {x = x} f d) = digits {x = x} f (digits_push y e d)

-- ---- a decimal number

-- 0, or digits of which the first is not 0
data Numeral : List ℕ → Type 0 where
  just_zero : Numeral (48 ∷ [])
  led : {x : ℕ} {xs : List ℕ} → is_nonzero x ≡ true → Digits xs [] → Numeral (x ∷ xs)

record IsDecimal (n : ℕ) (ds : List ℕ) : Type 0 where
  is_numeral : Numeral ds
  some : SomeDigits ds []
  value : value_from 0 ds ≡ n

numeral_push : {ds : List ℕ} (n y : ℕ) → is_digit y ≡ true → value_from 0 ds ≡ n → 0 < n → Numeral ds → Numeral (ds ++ y ∷ [])
unfolding value_from
numeral_push n y e v h just_zero = absurd (omega (arith, v))
numeral_push n y e v h (led {x = x} f d) = led {x = x} f (digits_push y e d)

one_digit : (n : ℕ) → n < 10 → IsDecimal n ((48 + n) ∷ [])
unfolding value_from
one_digit zero h = record { is_numeral = just_zero; some = digits {x = 48} refl no_digit; value = refl }
one_digit (suc n) h = record {
  is_numeral = led {x = 48 + suc n} (nonzero_ok (suc n) (omega arith) h) no_digit;
  some = digits {x = 48 + suc n} (digit_ok (suc n) h) no_digit;
  value = omega arith;
}

more_digits : (n : ℕ) (ds : List ℕ) → 10 ≤ n → IsDecimal (n / 10) ds → IsDecimal n (ds ++ (48 + n % 10) ∷ [])
more_digits n ds h d =
    let ok : is_digit (48 + n % 10) ≡ true = digit_ok (n % 10) (omega arith) in
    record {
      is_numeral = numeral_push (n / 10) (48 + n % 10) ok d.value (omega arith) d.is_numeral;
      some = some_push (48 + n % 10) ok d.some;
      value = omega (arith, one_more 0 ds (48 + n % 10), d.value);
    }

decimal_is : (n : ℕ) → n < 2 ^ 64 → IsDecimal n (decimal n)
decimal_is n h = decimal_by_steps IsDecimal one_digit more_digits n h

-- ---- JSON

unsigned_read : {ds : List ℕ} → Numeral ds → Unsigned ds []
unsigned_read just_zero = zero_first (no_fraction no_exponent)
unsigned_read (led {x = x} e d) = digit_first {x = x} e d (no_fraction no_exponent)

pub whole_is_json : (z : ℤ) → unsigned_abs z < 2 ^ 64 → IsJson (signed_decimal z)
whole_is_json (pos n) h = (0, number (plain_number (unsigned_read (decimal_is n h).is_numeral)))
whole_is_json (negsuc n) h = (0, number (minus (unsigned_read (decimal_is (suc n) h).is_numeral)))

-- ---- what is read

is_plain : (n : ℕ) (ds : List ℕ) → IsDecimal n ds → IsWhole ds (pos n)
is_plain n ds d = subst (λ z. IsWhole z (pos n)) (append-nil ds) (subst (λ m. IsWhole (ds ++ []) (pos m)) d.value (plain d.some no_point))

is_negative : (n : ℕ) (ds : List ℕ) → IsDecimal (suc n) ds → IsWhole (45 ∷ ds) (negsuc n)
is_negative n ds d = subst (λ z. IsWhole (45 ∷ z) (negsuc n)) (append-nil ds) (subst (λ m. IsWhole (45 ∷ (ds ++ [])) (minus_of m)) d.value (negative d.some no_point))

pub whole_written : (z : ℤ) → unsigned_abs z < 2 ^ 63 → IsWhole (signed_decimal z) z
whole_written (pos n) h = is_plain n (decimal n) (decimal_is n (omega (arith, h)))
whole_written (negsuc n) h = is_negative n (decimal (suc n)) (decimal_is (suc n) (omega (arith, h)))
