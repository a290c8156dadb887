-- What digits after digits mean, and how large it is.
use Rattle.kit_words.proofs.Common.{◌≡◌, ℕ, ◌+◌, ◌-◌, ◌*◌, ◌<◌, ◌≤◌, ◌^◌, Bool, true, refl, ap, subst, sym, ◌∙◌, inl}
use Rattle.kit_words.proofs.Common.{inr, List, [], ◌∷◌, ◌++◌, length, take, arith, pow-suc, mul-le-mul_right, one-add}
use Rattle.kit_words.proofs.Common.{and_parts, cases_Bool, nat_tests, take_all, list_all, prefix_len}
use Rattle.json_spans.specs.Common.{is_digit, value_from, digits_len}
use Rattle.decimal_texts.proofs.Powers.{power_mono}

pub value_from-append : (n : ℕ) (xs ys : List ℕ) → value_from n (xs ++ ys) ≡ value_from (value_from n xs) ys
unfolding value_from
value_from-append n [] ys = refl
value_from-append n (x ∷ xs) ys = value_from-append (n * 10 + (x - 48)) xs ys

digit_below : (x : ℕ) → is_digit x ≡ true → x ≤ 57
digit_below x h = grind (arith, nat_tests)

pub value_from-below : (n : ℕ) (xs : List ℕ) → list_all is_digit xs ≡ true → value_from n xs < (n + 1) * 10 ^ length xs
unfolding value_from
value_from-below n [] h = omega arith
value_from-below n (x ∷ xs) h =
    let p = and_parts (is_digit x) (list_all is_digit xs) h in
    let low : x ≤ 57 = digit_below x p.0 in
    let next : n * 10 + (x - 48) + 1 ≤ (n + 1) * 10 = omega arith in
    omega (arith, value_from-below (n * 10 + (x - 48)) xs p.1, mul-le-mul_right (10 ^ length xs) next, ap (λ q. (n + 1) * q) (pow-suc 10 (length xs)))

-- what stands before the first that does not pass, passes
pub front_passes : (p : ℕ → Bool) (xs : List ℕ) → list_all p (take (prefix_len p xs) xs) ≡ true
front_passes p [] = refl
front_passes p (x ∷ xs) =
    elim (cases_Bool (p x)) [
      | inl e ↦ rw (e, one-add, e) (front_passes p xs)
      | inr e ↦ rw e refl
    ]

-- the digits at the start are digits
pub front_digits : (n : ℕ) (xs us : List ℕ) → us ≡ take n xs → n ≡ digits_len xs → list_all is_digit us ≡ true
front_digits n xs us e f =
    subst (λ ys. list_all is_digit ys ≡ true) (sym (e ∙ ap (λ k. take k xs) f)) (front_passes is_digit xs)

pub all_digits : (xs : List ℕ) → digits_len xs ≡ length xs → list_all is_digit xs ≡ true
all_digits xs e =
    let whole : take (digits_len xs) xs ≡ xs = take_all (digits_len xs) xs (omega arith) in
    subst (λ ys. list_all is_digit ys ≡ true) whole (front_passes is_digit xs)

-- at most three digits
pub small_value : (xs : List ℕ) → digits_len xs ≡ length xs → length xs ≤ 3 → value_from 0 xs < 1000
small_value xs e h =
    omega (arith, value_from-below 0 xs (all_digits xs e), power_mono (length xs) 3 h)
