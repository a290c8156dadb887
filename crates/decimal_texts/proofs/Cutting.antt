-- Two rows of digits as one, cut at a place.
use Rattle.kit_words.proofs.Common.{◌≡◌, ℕ, zero, suc, ◌-◌, ◌*◌, ◌≤◌, ◌^◌, refl, ap, sym, ◌∙◌, List, [], ◌∷◌, ◌++◌}
use Rattle.kit_words.proofs.Common.{length, take, drop, min, arith, length-take, length-append, list_all-append, ◌&&◌}
use Rattle.kit_words.proofs.Common.{list_all}
use Rattle.json_spans.specs.Common.{value_from, is_zero}
use Rattle.json_spans.proofs.Decimal.{grows}
use Rattle.decimal_texts.specs.Common.{first_digits}
use Rattle.decimal_texts.proofs.Values.{value_from-append}
use Rattle.decimal_texts.proofs.Powers.{scaled_grows}

pub take-append : (n : ℕ) (xs ys : List ℕ) → take n (xs ++ ys) ≡ take n xs ++ take (n - length xs) ys
take-append zero [] ys = refl
take-append (suc n) [] ys = let e : suc n ≡ suc n - 0 = omega arith in ap (λ k. take k ys) e
take-append zero (x ∷ xs) ys = let e : 0 ≡ 0 - suc (length xs) = omega arith in ap (λ k. take k ys) e
take-append (suc n) (x ∷ xs) ys =
    let e : n - length xs ≡ suc n - suc (length xs) = omega arith in
    ap (λ zs. x ∷ zs) (take-append n xs ys ∙ ap (λ k. take n xs ++ take k ys) e)

pub drop-append : (n : ℕ) (xs ys : List ℕ) → drop n (xs ++ ys) ≡ drop n xs ++ drop (n - length xs) ys
drop-append zero [] ys = refl
drop-append (suc n) [] ys = let e : suc n ≡ suc n - 0 = omega arith in ap (λ k. drop k ys) e
drop-append zero (x ∷ xs) ys = let e : 0 ≡ 0 - suc (length xs) = omega arith in ap (λ k. (x ∷ xs) ++ drop k ys) e
drop-append (suc n) (x ∷ xs) ys =
    let e : n - length xs ≡ suc n - suc (length xs) = omega arith in
    drop-append n xs ys ∙ ap (λ k. drop n xs ++ drop k ys) e

-- read in two steps
pub first_digits_is : (n : ℕ) (xs ys us vs : List ℕ) → us ≡ take n xs → vs ≡ take (n - length us) ys → first_digits n (xs ++ ys) ≡ value_from (value_from 0 us) vs * 10 ^ (n - length us - length vs)
first_digits_is n xs ys us vs e f =
    let short : length us ≡ min n (length xs) = ap length e ∙ length-take n xs in
    let left : n - length us ≡ n - length xs = omega arith in
    let rest : length vs ≡ min (n - length us) (length ys) = ap length f ∙ length-take (n - length us) ys in
    let missing : n - length (xs ++ ys) ≡ n - length us - length vs = omega (arith, length-append xs ys) in
    let front : take n (xs ++ ys) ≡ us ++ vs = take-append n xs ys ∙ (ap (λ k. take n xs ++ take k ys) (sym left) ∙ (ap (λ zs. take n xs ++ zs) (sym f) ∙ ap (λ zs. zs ++ vs) (sym e))) in
    let value : value_from 0 (take n (xs ++ ys)) ≡ value_from (value_from 0 us) vs = ap (value_from 0) front ∙ value_from-append 0 us vs in
    ap (λ m. m * 10 ^ (n - length (xs ++ ys))) value ∙ ap (λ k. value_from (value_from 0 us) vs * 10 ^ k) missing

-- the first of them alone may be too large, and so may both
pub first_large : (m n : ℕ) (xs ys us : List ℕ) → us ≡ take n xs → m ≤ value_from 0 us → m ≤ first_digits n (xs ++ ys)
first_large m n xs ys us e h =
    let vs = take (n - length us) ys in
    let is = first_digits_is n xs ys us vs e refl in
    omega (arith, is, grows (value_from 0 us) vs, scaled_grows (value_from (value_from 0 us) vs) (n - length us - length vs))

pub both_large : (m n : ℕ) (xs ys us vs : List ℕ) → us ≡ take n xs → vs ≡ take (n - length us) ys → m ≤ value_from (value_from 0 us) vs → m ≤ first_digits n (xs ++ ys)
both_large m n xs ys us vs e f h =
    omega (arith, first_digits_is n xs ys us vs e f, scaled_grows (value_from (value_from 0 us) vs) (n - length us - length vs))

-- zeros alone follow a place, where they do in both
pub ends_is : (n : ℕ) (xs ys : List ℕ) → list_all is_zero (drop n (xs ++ ys)) ≡ (list_all is_zero (drop n xs) && list_all is_zero (drop (n - length xs) ys))
ends_is n xs ys = ap (list_all is_zero) (drop-append n xs ys) ∙ list_all-append is_zero (drop n xs) (drop (n - length xs) ys)
