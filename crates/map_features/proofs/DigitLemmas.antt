-- How many digits a number has.
use Rattle.kit_words.proofs.Common.{◌≡◌, ◌≤◌, ◌+◌, ◌++◌, ap, refl, ◌/◌, ◌%◌, ◌==◌, ℕ, zero, suc, Bool, true, false, List, [], ◌∷◌, arith, decimal, digits, if◌then◌else◌, length}
use Rattle.std.specs.Fmt.{digit_glyph, digits_onto}
use Rattle.map_features.specs.Amounts.{zeros}

onto : (k base : ℕ) (upper : Bool) (n : ℕ) (acc : List ℕ) → length (digits_onto k base upper n acc) ≤ k + length acc
onto zero base upper n acc = omega arith
onto (suc k) base upper n acc = by_end (n / base == 0) (onto k base upper (n / base) (digit_glyph upper (n % base) ∷ acc)) where
  by_end : (end : Bool) → length (digits_onto k base upper (n / base) (digit_glyph upper (n % base) ∷ acc)) ≤ k + suc (length acc)
      → length (if end then digit_glyph upper (n % base) ∷ acc else digits_onto k base upper (n / base) (digit_glyph upper (n % base) ∷ acc)) ≤ suc k + length acc
  by_end true rest = omega arith
  by_end false rest = omega (arith, rest)

pub few_digits : (n : ℕ) → length (decimal n) ≤ 64
unfolding digits
few_digits n = omega (arith, onto 64 10 false n [])

-- a zero more
pub zeros_more : (n : ℕ) → zeros (n + 1) ≡ zeros n ++ 48 ∷ []
zeros_more zero = refl
zeros_more (suc n) =
    let more : suc n + 1 ≡ suc (n + 1) = omega arith in
    rw more (ap (λ xs. 48 ∷ xs) (zeros_more n))
