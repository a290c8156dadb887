-- A whole number of a JSON text, as a decimal.
use Rattle.kit_words.proofs.Common.{◌≡◌, ℕ, zero, suc, ◌+◌, ◌-◌, ◌*◌, ◌<◌, ◌^◌, Bool, true, false, refl, ap, ap₂, sym}
use Rattle.kit_words.proofs.Common.{◌∙◌, cond, inl, inr, List, [], ◌∷◌, ◌++◌, length, take, drop, Option, Some, None}
use Rattle.kit_words.proofs.Common.{Ok, arith, pow-suc, take-append_seam, drop-append_seam, and_parts, and_from}
use Rattle.kit_words.proofs.Common.{cases_Bool, cond-true, cond-false, lt-ltb, nat_tests, ints, length-take, take_all}
use Rattle.kit_words.proofs.Common.{drop_all, take-append-drop, list_all-append, pow-add, ℤ, pos, ◌*ℤ◌, nat_lt}
use Rattle.kit_words.proofs.Common.{list_all}
use Rattle.std.proofs.lemmas.Bool.{eqb-true}
use Rattle.json_spans.specs.Common.{is_digit, Digits, no_digit, digit, SomeDigits, digits, IsNumber, value_from}
use Rattle.json_spans.specs.Common.{is_zero, digits_len, whole_of, NoFraction, no_point, point, IsWhole, plain}
use Rattle.json_spans.specs.Common.{negative}
use Rattle.json_spans.specs.Whole.{minus}
use Rattle.json_spans.proofs.Common.{whole_meant, digit_no_minus}
use Rattle.json_spans.proofs.Meant.{all_digits, fraction_len}
use Rattle.decimal_texts.specs.Common.{Parts, digits_of, behind_digits, exponent_of, with_exponent, behind_integer}
use Rattle.decimal_texts.specs.Common.{unsigned, parts_of, behind_e, without_sign, exponent_digits, reach}
use Rattle.decimal_texts.specs.Common.{first_digits, one_if_more, fine}
use Rattle.decimal_texts.proofs.Cutting.{first_digits_is, ends_is}
use Rattle.decimal_texts.proofs.Numbers.{digits_all, skipped, number_long}

-- ---- digits before others, and zeros as digits

joined : {ds : List ℕ} → Digits ds [] → (f : List ℕ) → Digits (ds ++ f) f
joined no_digit f = no_digit
joined (digit {x = x} e d) f = digit {x = x} e (joined d f)

zero_digit : (x : ℕ) → is_zero x ≡ true → is_digit x ≡ true
zero_digit x h = grind (arith, nat_tests)

zeros_digits : (zs : List ℕ) → list_all is_zero zs ≡ true → Digits zs []
zeros_digits [] h = no_digit
zeros_digits (x ∷ xs) h =
    let p = and_parts (is_zero x) (list_all is_zero xs) h in
    digit {x = x} (zero_digit x p.0) (zeros_digits xs p.1)

-- ---- no e stands in a whole number

fraction_no_e : {f : List ℕ} → NoFraction f → behind_e f ≡ []
fraction_no_e no_point = refl
fraction_no_e (point {zeros = zs} z) = skipped (zeros_digits zs z)

digits_no_e : {ds f : List ℕ} → SomeDigits ds [] → NoFraction f → behind_e (ds ++ f) ≡ []
digits_no_e {f = f} (digits {x = x} e d) n = skipped (joined (digit {x = x} e d) f) ∙ fraction_no_e n

no_e : (bytes : List ℕ) (z : ℤ) → IsWhole bytes z → behind_e bytes ≡ []
no_e bytes z (plain d n) = digits_no_e d n
no_e bytes z (negative d n) = digits_no_e d n

some_or : {A : Type 0} (o : Option A) → (o ≡ None → ⊥) → (x : A) × (o ≡ Some x)
some_or None h = absurd (h refl)
some_or (Some x) h = (x, refl)

-- so its exponent is not long, and it has parts
pub whole_has_parts : (bytes : List ℕ) (z : ℤ) → IsNumber bytes → whole_of bytes ≡ Ok z → (p : Parts) × (parts_of bytes ≡ Some p)
whole_has_parts bytes z n e =
    let none : exponent_digits bytes ≡ [] = ap without_sign (no_e bytes z (whole_meant bytes z e)) in
    some_or (parts_of bytes) (λ h. absurd (omega (arith, number_long n h, ap length none)))

-- ---- digits, and zeros behind a point or none

some_len : {ds f : List ℕ} → SomeDigits ds [] → NoFraction f → digits_len (ds ++ f) ≡ length ds
some_len {f = f} (digits {x = x} t d) n = all_digits (digit {x = x} t d) f (fraction_len n)

some_more : {ds : List ℕ} → SomeDigits ds [] → 0 < length ds
some_more (digits {x = x} {xs = xs} t d) = omega arith

unsigned_is : {ds f : List ℕ} (s : Bool) → SomeDigits ds [] → NoFraction f → unsigned s (ds ++ f) ≡ behind_integer s ds f
unsigned_is {ds} {f} s d n =
    let some : nat_lt 0 (length ds) ≡ true = lt-ltb 0 (length ds) (some_more d) in
    rw (some_len d n, some, take-append_seam ds f, drop-append_seam ds f) refl

plain_is : {ds f : List ℕ} → SomeDigits ds [] → NoFraction f → parts_of (ds ++ f) ≡ behind_integer false ds f
plain_is (digits {x = x} t d) n = cond-false _ _ _ (digit_no_minus x t) ∙ unsigned_is false (digits {x = x} t d) n

-- ---- its parts: the digits, and zeros

abbrev whole_parts : Bool → List ℕ → List ℕ → Parts
whole_parts s ds zs = record { is_negative = s; integer = ds; fraction = zs; exponent = pos 0 }

record HasZeros (s : Bool) (ds : List ℕ) (p : Parts) : Type 0 where
  zeros : List ℕ
  is : p ≡ whole_parts s ds zeros
  all : list_all is_zero zeros ≡ true

point_read : (s : Bool) (ds zs : List ℕ) (p : Parts) → list_all is_zero zs ≡ true → behind_integer s ds (46 ∷ zs) ≡ Some p
    → HasZeros s ds p
point_read s ds zs p z h =
    let len : digits_len zs ≡ length zs = digits_all (zeros_digits zs z) in
    let all : digits_of zs ≡ zs = take_all (digits_len zs) zs (omega (arith, len)) in
    let rest : behind_digits zs ≡ [] = drop_all (digits_len zs) zs (omega (arith, len)) in
    elim (cases_Bool (nat_lt 0 (digits_len zs))) [
      | inl t ↦
          let read : behind_integer s ds (46 ∷ zs) ≡ Some (whole_parts s ds zs) =
          cond-true _ _ _ t ∙ ap₂ (λ us vs. with_exponent s ds us (exponent_of vs)) all rest in
          let same : p ≡ whole_parts s ds zs = cc in
          record { zeros = zs; is = same; all = z }
      | inr t ↦
          let none : behind_integer s ds (46 ∷ zs) ≡ None = cond-false _ _ _ t in
          absurd cc
    ]

fraction_read : (s : Bool) (ds : List ℕ) {f : List ℕ} (p : Parts) → NoFraction f → behind_integer s ds f ≡ Some p → HasZeros s ds p
fraction_read s ds p no_point h = record { zeros = []; is = cc; all = refl }
fraction_read s ds p (point {zeros = zs} z) h = point_read s ds zs p z h

-- ---- zeros behind digits multiply by a power of ten

zeros_value : (n : ℕ) (zs : List ℕ) → list_all is_zero zs ≡ true → value_from n zs ≡ n * 10 ^ length zs
unfolding value_from
zeros_value n [] h = omega arith
zeros_value n (x ∷ xs) h =
    let q = and_parts (is_zero x) (list_all is_zero xs) h in
    let next : n * 10 + (x - 48) ≡ n * 10 = omega (arith, eqb-true x 48 q.0) in
    ap (λ m. value_from m xs) next ∙ (zeros_value (n * 10) xs q.1 ∙ omega (arith, ap (λ k. n * k) (pow-suc 10 (length xs))))

scaled_twice : (v : ℕ) (zs : List ℕ) (k : ℕ) → length zs + k ≡ 24 → list_all is_zero zs ≡ true
    → value_from v zs * 10 ^ k ≡ v * 10 ^ 24
scaled_twice v zs k e h =
    let both : 10 ^ length zs * 10 ^ k ≡ 10 ^ 24 = sym (pow-add 10 (length zs) k) ∙ ap (λ j. 10 ^ j) e in
    ap (λ m. m * 10 ^ k) (zeros_value v zs h) ∙ omega (arith, ap (λ m. v * m) both)

-- what passes, passes before a place and after it
both_pass : (p : ℕ → Bool) (n : ℕ) (xs : List ℕ) → list_all p xs ≡ true → (list_all p (take n xs) ≡ true) × (list_all p (drop n xs) ≡ true)
both_pass p n xs h =
    and_parts _ _ (sym (list_all-append p (take n xs) (drop n xs)) ∙ (ap (list_all p) (take-append-drop n xs) ∙ h))

-- ---- its units of 10^-24

first_is : (n : ℕ) (ds zs : List ℕ) → n ≡ length ds + 24 → list_all is_zero zs ≡ true
    → first_digits n (ds ++ zs) ≡ value_from 0 ds * 10 ^ 24
first_is n ds zs e h =
    let us = take 24 zs in
    let left : n - length ds ≡ 24 = omega (arith, e) in
    let front : ds ≡ take n ds = sym (take_all n ds (omega (arith, e))) in
    let back : us ≡ take (n - length ds) zs = ap (λ k. take k zs) (sym left) in
    let whole : length us + (n - length ds - length us) ≡ 24 = omega (arith, length-take 24 zs, left) in
    first_digits_is n ds zs ds us front back ∙ scaled_twice (value_from 0 ds) us _ whole (both_pass is_zero 24 zs h).0

none_more : (n : ℕ) (ds zs : List ℕ) → n ≡ length ds + 24 → list_all is_zero zs ≡ true → one_if_more n (ds ++ zs) ≡ 0
none_more n ds zs e h =
    let front : list_all is_zero (drop n ds) ≡ true = ap (list_all is_zero) (drop_all n ds (omega (arith, e))) in
    let back = (both_pass is_zero (n - length ds) zs h).1 in
    cond-true _ 0 1 (ends_is n ds zs ∙ and_from _ _ front back)

minus_scaled : (v u : ℕ) → u ≡ v * 10 ^ 24 → minus u ≡ minus v *ℤ pos (10 ^ 24)
minus_scaled zero zero e = refl
minus_scaled zero (suc u) e = absurd (omega (arith, e))
minus_scaled (suc v) zero e = absurd (omega (arith, e))
minus_scaled (suc v) (suc u) e = omega (arith, ints, e)

reach_is : (s : Bool) (ds zs : List ℕ) → reach (whole_parts s ds zs) ≡ length ds + 24
reach_is s ds zs = omega arith

abbrev as_signed : Bool → ℕ → ℤ
as_signed s v = cond s (minus v) (pos v)

whole_fine : (s : Bool) (ds zs : List ℕ) → list_all is_zero zs ≡ true
    → fine (whole_parts s ds zs) ≡ as_signed s (value_from 0 ds) *ℤ pos (10 ^ 24)
whole_fine true ds zs h =
    let e = reach_is true ds zs in
    minus_scaled (value_from 0 ds) _ (omega (arith, first_is _ ds zs e h, none_more _ ds zs e h))
whole_fine false ds zs h = ap pos (first_is _ ds zs (reach_is false ds zs) h)

read_fine : (s : Bool) (ds : List ℕ) (p : Parts) → HasZeros s ds p → fine p ≡ as_signed s (value_from 0 ds) *ℤ pos (10 ^ 24)
read_fine s ds p w = ap fine w.is ∙ whole_fine s ds w.zeros w.all

meant_fine : (bytes : List ℕ) (p : Parts) (z : ℤ) → parts_of bytes ≡ Some p → IsWhole bytes z → fine p ≡ z *ℤ pos (10 ^ 24)
meant_fine bytes p z h (plain {integer = ds} d n) = read_fine false ds p (fraction_read false ds p n (sym (plain_is d n) ∙ h))
meant_fine bytes p z h (negative {integer = ds} d n) = read_fine true ds p (fraction_read true ds p n (sym (unsigned_is true d n) ∙ h))

-- a whole number has 10^24 units for each one
pub whole_is_fine : (bytes : List ℕ) (p : Parts) (z : ℤ) → parts_of bytes ≡ Some p → whole_of bytes ≡ Ok z → fine p ≡ z *ℤ pos (10 ^ 24)
whole_is_fine bytes p z h e = meant_fine bytes p z h (whole_meant bytes z e)
