-- A number divided by a power of ten is a number of a JSON text (RFC 8259, 6).
use Rattle.kit_words.proofs.Common.{◌≡◌, ℕ, zero, suc, ◌<◌, ◌/◌, ◌%◌, Bool, true, false, refl, ap, subst, sym, ◌∙◌, inl}
use Rattle.kit_words.proofs.Common.{inr, List, [], ◌∷◌, ◌++◌, length, ℤ, pos, negsuc, arith, cases_Bool, cond_both}
use Rattle.kit_words.proofs.Common.{and_parts, and_from, ne_eqb, nat_tests, list_all-append, ◌-ℤ◌, ◌==◌, IsTrue}
use Rattle.kit_words.proofs.Common.{list_all}
use Rattle.std.specs.Fmt.{digits as digits_of, digits_onto, digit_glyph, decimal, signed_decimal}
use Rattle.json_spans.specs.Common.{is_digit, is_nonzero, Digits, no_digit, digit, SomeDigits, digits, Signed, sign}
use Rattle.json_spans.specs.Common.{unsigned, Exponent, exponent, no_fraction, Unsigned, zero_first, digit_first, minus}
use Rattle.json_spans.specs.Common.{plain_number, IsNumber, is_zero}
use Rattle.decimal_texts.specs.Common.{Parts, without_zeros, or_zero, sign_text, shifted_text}
use Rattle.decimal_texts.proofs.Leading.{passed, stopped, or_zero_none}

-- ---- the power of ten

digit_ok : (d : ℕ) → d < 10 → is_digit (digit_glyph false d) ≡ true
digit_ok d h = grind (arith, nat_tests)

last_ok : (n : ℕ) → is_digit (digit_glyph false (n % 10)) ≡ true
last_ok n = digit_ok (n % 10) (omega arith)

all_of : {xs : List ℕ} → SomeDigits xs [] → Digits xs []
all_of (digits {x = x} e d) = digit {x = x} e d

onto_some : (k n : ℕ) (acc : List ℕ) → SomeDigits acc [] → SomeDigits (digits_onto k 10 false n acc) []
onto_some zero n acc s = s
onto_some (suc k) n acc s =
    let more = digits {x = digit_glyph false (n % 10)} (last_ok n) (all_of s) in
    cond_both (n / 10 == 0) (digit_glyph false (n % 10) ∷ acc) (digits_onto k 10 false (n / 10) (digit_glyph false (n % 10) ∷ acc)) (λ xs. SomeDigits xs [])
    (λ _. more) (λ _. onto_some k (n / 10) (digit_glyph false (n % 10) ∷ acc) more)

onto_none : (k n : ℕ) → SomeDigits (digits_onto (suc k) 10 false n []) []
onto_none k n =
    let one = digits {x = digit_glyph false (n % 10)} (last_ok n) no_digit in
    cond_both (n / 10 == 0) (digit_glyph false (n % 10) ∷ []) (digits_onto k 10 false (n / 10) (digit_glyph false (n % 10) ∷ [])) (λ xs. SomeDigits xs [])
    (λ _. one) (λ _. onto_some k (n / 10) (digit_glyph false (n % 10) ∷ []) one)

some_decimal : (n : ℕ) → SomeDigits (decimal n) []
unfolding digits_of
some_decimal n = onto_none 63 n

signed_power : (z : ℤ) → Signed (signed_decimal z) []
signed_power (pos n) = unsigned (some_decimal n)
signed_power (negsuc n) = sign {x = 45} refl (some_decimal (suc n))

power_written : (z : ℤ) → Exponent (101 ∷ signed_decimal z) []
power_written z = exponent {x = 101} refl (signed_power z)

-- ---- the digits before it

digits_then : (xs r : List ℕ) → list_all is_digit xs ≡ true → Digits (xs ++ r) r
digits_then [] r h = no_digit
digits_then (x ∷ xs) r h =
    let p = and_parts (is_digit x) (list_all is_digit xs) h in
    digit {x = x} p.0 (digits_then xs r p.1)

nonzero_from : (x : ℕ) → is_digit x ≡ true → is_zero x ≡ false → is_nonzero x ≡ true
nonzero_from x h k = grind (arith, nat_tests)

-- the digits from the first on that is not 0
begun : (x : ℕ) (xs : List ℕ) → is_zero x ≡ false → x ∷ xs ≡ or_zero (without_zeros (x ∷ xs))
begun x xs e =
    let some : (length (x ∷ xs) == 0) ≡ false = ne_eqb (suc (length xs)) 0 (λ z. omega (arith, z)) in
    sym (ap or_zero (stopped is_zero x xs e) ∙ or_zero_none (x ∷ xs) some)

-- 0, or digits of which the first is not 0, and a power of ten
led_number : (ds r : List ℕ) → list_all is_digit ds ≡ true → Exponent r [] → Unsigned (or_zero (without_zeros ds) ++ r) []
led_number [] r h e = zero_first (no_fraction e)
led_number (x ∷ xs) r h e =
    let p = and_parts (is_digit x) (list_all is_digit xs) h in
    elim (cases_Bool (is_zero x)) [
      | inl z ↦ subst (λ zs. Unsigned (or_zero zs ++ r) []) (sym (passed is_zero x xs z)) (led_number xs r p.1 e)
      | inr z ↦ subst (λ zs. Unsigned (zs ++ r) []) (begun x xs z) (digit_first {x = x} (nonzero_from x p.0 z) (digits_then xs r p.1) (no_fraction e))
    ]

with_sign : (is_negative : Bool) (xs : List ℕ) → Unsigned xs [] → IsNumber (sign_text is_negative ++ xs)
with_sign true xs u = minus u
with_sign false xs u = plain_number u

-- whatever its digits and its exponent are
pub shifted_number : (k : ℕ) (p : Parts) → IsTrue (list_all is_digit p.integer) → IsTrue (list_all is_digit p.fraction) → IsNumber (shifted_text k p)
shifted_number k p whole part =
    let z = (p.exponent -ℤ pos (length p.fraction)) -ℤ pos k in
    let ds = p.integer ++ p.fraction in
    let all : list_all is_digit ds ≡ true = rw list_all-append (and_from _ _ whole part) in
    with_sign p.is_negative _ (led_number ds (101 ∷ signed_decimal z) all (power_written z))
