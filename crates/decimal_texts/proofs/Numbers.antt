-- A number of a JSON text is read, unless its exponent is long.
use Rattle.kit_words.proofs.Common.{◌≡◌, ℕ, ◌+◌, ◌<◌, Bool, true, false, refl, ap, subst, sym, ◌∙◌, inl, inr, List, []}
use Rattle.kit_words.proofs.Common.{◌∷◌, length, Option, Some, None, arith, cases_lt, cases_Bool, cond-true, cond-false}
use Rattle.kit_words.proofs.Common.{and_from, lt-ltb, or_cases, or_parts, both_ways, nat_tests, ℤ, pos, ◌==◌, ◌&&◌}
use Rattle.kit_words.proofs.Common.{nat_lt, nat_le, option_map, is_some}
use Rattle.std.proofs.lemmas.Bool.{le-leb, eq-eqb}
use Rattle.json_spans.specs.Common.{is_digit, is_nonzero, is_e, is_sign, value_from, digits_len}
use Rattle.json_spans.specs.Grammar.{Digits, no_digit, digit, SomeDigits, digits, Signed as IsSigned, sign, unsigned as plain, Exponent, no_exponent, exponent, Fraction, no_fraction, fraction, Unsigned, zero_first, digit_first, Number, minus as negative, plain_number}
use Rattle.json_spans.specs.Whole.{minus}
use Rattle.decimal_texts.specs.Common.{digits_of, behind_digits, small, signed_small, exponent_of, with_exponent}
use Rattle.decimal_texts.specs.Common.{behind_integer, unsigned, parts_of, behind_e, without_sign, exponent_digits}
use Rattle.decimal_texts.proofs.Leading.{passed, stopped}

-- ---- digits, and what follows them

-- no digit stands first
abbrev Apart : List ℕ → Type 0
Apart [] = Unit {0}
Apart (x ∷ xs) = is_digit x ≡ false

none_first : (r : List ℕ) → Apart r → behind_digits r ≡ r
none_first [] a = refl
none_first (x ∷ xs) a = stopped is_digit x xs a

behind_is : {xs r : List ℕ} → Digits xs r → Apart r → behind_digits xs ≡ r
behind_is (no_digit {r = r}) a = none_first r a
behind_is (digit {x = x} {xs = xs} e d) a = passed is_digit x xs e ∙ behind_is d a

behind_some : {xs r : List ℕ} → SomeDigits xs r → Apart r → behind_digits xs ≡ r
behind_some (digits {x = x} {xs = xs} e d) a = passed is_digit x xs e ∙ behind_is d a

digits_some : {xs r : List ℕ} → SomeDigits xs r → 0 < digits_len xs
digits_some (digits {x = x} {xs = xs} e d) = omega (arith, cond-true (is_digit x) (1 + digits_len xs) 0 e)

pub digits_all : {xs : List ℕ} → Digits xs [] → digits_len xs ≡ length xs
digits_all no_digit = refl
digits_all (digit {x = x} {xs = xs} e d) = omega (arith, cond-true (is_digit x) (1 + digits_len xs) 0 e, digits_all d)

some_all : {xs : List ℕ} → SomeDigits xs [] → digits_len xs ≡ length xs
some_all (digits {x = x} {xs = xs} e d) = omega (arith, cond-true (is_digit x) (1 + digits_len xs) 0 e, digits_all d)

not_e : (x : ℕ) → is_digit x ≡ true → is_e x ≡ false
not_e x h = grind (arith, nat_tests)

pub skipped : {xs r : List ℕ} → Digits xs r → behind_e xs ≡ behind_e r
skipped no_digit = refl
skipped (digit {x = x} {xs = xs} e d) = cond-false (is_e x) xs (behind_e xs) (not_e x e) ∙ skipped d

skipped_some : {xs r : List ℕ} → SomeDigits xs r → behind_e xs ≡ behind_e r
skipped_some (digits {x = x} {xs = xs} e d) = cond-false (is_e x) xs (behind_e xs) (not_e x e) ∙ skipped d

-- ---- the exponent

none_from_map : {A B : Type 0} (f : A → B) (o : Option A) → option_map f o ≡ None → o ≡ None
none_from_map f None h = refl
none_from_map f (Some x) h = cc

none_from_with : (s : Bool) (i f : List ℕ) (o : Option ℤ) → with_exponent s i f o ≡ None → o ≡ None
none_from_with s i f None h = refl
none_from_with s i f (Some x) h = cc

small_long : {xs : List ℕ} → SomeDigits xs [] → small xs ≡ None → 3 < length xs
small_long {xs} s h =
    elim (cases_lt 3 (length xs)) [
      | inl l ↦ l
      | inr l ↦
          let all : digits_len xs ≡ length xs = some_all s in
          let some : 0 < length xs = omega (arith, digits_some s) in
          let test : (nat_lt 0 (length xs) && nat_le (length xs) 3 && (digits_len xs == length xs)) ≡ true =
          and_from _ _ (and_from _ _ (lt-ltb 0 (length xs) some) (le-leb (length xs) 3 l)) (eq-eqb (digits_len xs) (length xs) all) in
          let read : small xs ≡ Some (value_from 0 xs) = cond-true _ (Some (value_from 0 xs)) None test in
          absurd (cc (read, h))
    ]

not_sign : (x : ℕ) → is_digit x ≡ true → is_sign x ≡ false
not_sign x h = grind (arith, nat_tests)

behind_sign : (y : ℕ) (ds : List ℕ) → is_sign y ≡ true → signed_small (y ∷ ds) ≡ None → small ds ≡ None
behind_sign y ds e h =
    elim (cases_Bool (y == 45)) [
      | inl m ↦ none_from_map minus (small ds) (sym (cond-true (y == 45) _ _ m) ∙ h)
      | inr m ↦
          elim (or_cases (y == 43) (y == 45) e) [
            | inl p ↦ none_from_map pos (small ds) (sym (cond-false (y == 45) _ _ m ∙ cond-true (y == 43) _ _ p) ∙ h)
            | inr p ↦ absurd (both_ways (y == 45) m p)
          ]
    ]

signed_long : {xs : List ℕ} → IsSigned xs [] → signed_small xs ≡ None → 3 < length (without_sign xs)
signed_long (sign {x = y} {xs = ds} e s) h =
    subst (λ zs. 3 < length zs) (sym (cond-true (is_sign y) ds (y ∷ ds) e)) (small_long s (behind_sign y ds e h))
signed_long (plain (digits {x = x} {xs = xs} e d)) h =
    let p = or_parts (x == 43) (x == 45) (not_sign x e) in
    let none = none_from_map pos (small (x ∷ xs)) (sym (cond-false (x == 45) _ _ p.1 ∙ cond-false (x == 43) _ _ p.0) ∙ h) in
    subst (λ zs. 3 < length zs) (sym (cond-false (is_sign x) xs (x ∷ xs) (not_sign x e))) (small_long (digits {x = x} e d) none)

exponent_long : {xs : List ℕ} → Exponent xs [] → exponent_of xs ≡ None → 3 < length (exponent_digits xs)
exponent_long no_exponent h = absurd (cc)
exponent_long (exponent {x = x} {xs = ys} e s) h =
    subst (λ zs. 3 < length (without_sign zs)) (sym (cond-true (is_e x) ys (behind_e ys) e)) (signed_long s (sym (cond-true (is_e x) (signed_small ys) None e) ∙ h))

-- ---- what stands before it

e_apart : (x : ℕ) → is_e x ≡ true → is_digit x ≡ false
e_apart x h = grind (arith, nat_tests)

e_no_point : (x : ℕ) → is_e x ≡ true → (x == 46) ≡ false
e_no_point x h = grind (arith, nat_tests)

exponent_apart : {xs : List ℕ} → Exponent xs [] → Apart xs
exponent_apart no_exponent = tt
exponent_apart (exponent {x = x} e s) = e_apart x e

fraction_apart : {xs : List ℕ} → Fraction xs [] → Apart xs
fraction_apart (no_fraction e) = exponent_apart e
fraction_apart (fraction s e) = refl

no_fraction_long : {xs : List ℕ} → Exponent xs [] → (s : Bool) (i : List ℕ) → behind_integer s i xs ≡ None → 3 < length (exponent_digits xs)
no_fraction_long no_exponent s i h = absurd (cc)
no_fraction_long (exponent {x = x} {xs = ys} e d) s i h =
    exponent_long (exponent {x = x} e d) (none_from_with s i [] (exponent_of (x ∷ ys)) (sym (cond-false (x == 46) _ _ (e_no_point x e)) ∙ h))

fraction_long : {xs : List ℕ} → Fraction xs [] → (s : Bool) (i : List ℕ) → behind_integer s i xs ≡ None → 3 < length (exponent_digits xs)
fraction_long (no_fraction e) s i h = no_fraction_long e s i h
fraction_long (fraction {xs = ys} {ys = zs} d e) s i h =
    let some : nat_lt 0 (digits_len ys) ≡ true = lt-ltb 0 (digits_len ys) (digits_some d) in
    let none = none_from_with s i (digits_of ys) (exponent_of (behind_digits ys)) (sym (cond-true (nat_lt 0 (digits_len ys)) _ _ some) ∙ h) in
    let long = exponent_long e (ap exponent_of (sym (behind_some d (exponent_apart e))) ∙ none) in
    subst (λ us. 3 < length (without_sign us)) (sym (skipped_some d)) long

numeral_long : {xs r : List ℕ} → SomeDigits xs r → Fraction r [] → (s : Bool) → unsigned s xs ≡ None → 3 < length (exponent_digits xs)
numeral_long {xs} {r} d f s h =
    let some : nat_lt 0 (digits_len xs) ≡ true = lt-ltb 0 (digits_len xs) (digits_some d) in
    let none = sym (cond-true (nat_lt 0 (digits_len xs)) _ _ some) ∙ h in
    let long = fraction_long f s (digits_of xs) (ap (behind_integer s (digits_of xs)) (sym (behind_some d (fraction_apart f))) ∙ none) in
    subst (λ us. 3 < length (without_sign us)) (sym (skipped_some d)) long

digit_from : (x : ℕ) → is_nonzero x ≡ true → is_digit x ≡ true
digit_from x h = grind (arith, nat_tests)

unsigned_long : {xs : List ℕ} → Unsigned xs [] → (s : Bool) → unsigned s xs ≡ None → 3 < length (exponent_digits xs)
unsigned_long (zero_first f) s h = numeral_long (digits {x = 48} refl no_digit) f s h
unsigned_long (digit_first {x = x} e d f) s h = numeral_long (digits {x = x} (digit_from x e) d) f s h

no_minus : (x : ℕ) → is_nonzero x ≡ true → (x == 45) ≡ false
no_minus x h = grind (arith, nat_tests)

plain_parts : {xs : List ℕ} → Unsigned xs [] → parts_of xs ≡ unsigned false xs
plain_parts (zero_first f) = refl
plain_parts (digit_first {x = x} e d f) = cond-false (x == 45) _ _ (no_minus x e)

pub number_long : {xs : List ℕ} → Number xs [] → parts_of xs ≡ None → 3 < length (exponent_digits xs)
number_long (negative u) h = unsigned_long u true h
number_long (plain_number u) h = unsigned_long u false (sym (plain_parts u) ∙ h)

-- what is seen of no answer
pub none_seen : {A B : Type 0} (f : A → B) (o : Option A) (p : Option B) → is_some o ≡ false → option_map f o ≡ p → p ≡ None
none_seen f None p h e = sym e
none_seen f (Some x) p h e = absurd (cc)
