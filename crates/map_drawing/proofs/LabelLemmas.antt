-- How wide a text is as it is drawn, byte by byte.
use mir.Syntax.{w64}
use mir.Val.{SFits}
use Rattle.kit_words.proofs.Common.{◌≡◌, ◌+◌, ◌-◌, ◌^◌, min, ℤ, pos, Result, Ok, Err, arith, ints, clamps, rules, cases_lt, ◌==◌, ◌||◌, ◌∙◌, ap₂, sym, subst, refl, Bool, true, false, ℕ, List, [], ◌∷◌}
use Rattle.kit_words.proofs.Common.{and_parts, or_cases, inl, inr, eqb-true, if◌then◌else◌}
use Rattle.std.specs.Prelude.{sum_by}
use Rattle.std.specs.Result.{OkIff, result_unwrap_or}
use Rattle.std.proofs.lemmas.List.Sums.{sum_by-append, sum_by-cons}
use Rattle.svg_text.specs.Escaping.{ends_noncharacter}
use Rattle.map_drawing.specs.Labels.{drawn_after, drawn_byte, drawn_from, drawn_text, letters_at, letters_in}

-- for how many letters a byte stands where it is drawn
abbrev pub letters_drawn : ℕ → ℕ
letters_drawn b = letters_in (drawn_byte b)

by_test : (t : Bool) (x y : List ℕ) (n : ℕ) → (t ≡ true → letters_in x ≡ n) → letters_in y ≡ n → letters_in (if t then x else y) ≡ n
by_test true x y n one other = one refl
by_test false x y n one other = other

-- the last byte of U+FFFE and U+FFFF stands for none
last_byte : (b : ℕ) → (b == 190 || b == 191) ≡ true → letters_in (189 ∷ []) ≡ letters_drawn b
last_byte b is =
    elim (or_cases _ _ is) [
      | inl e ↦ subst (λ (x : ℕ). letters_in (189 ∷ []) ≡ letters_drawn x) (sym (eqb-true b 190 e)) refl
      | inr e ↦ subst (λ (x : ℕ). letters_in (189 ∷ []) ≡ letters_drawn x) (sym (eqb-true b 191 e)) refl
    ]

after_is : (first second b : ℕ) → letters_in (drawn_after first second b) ≡ letters_drawn b
after_is first second b =
    by_test (ends_noncharacter first second b) (189 ∷ []) (drawn_byte b) (letters_drawn b) (λ is. last_byte b (and_parts _ _ is).1) refl

from_is : (first second : ℕ) (text : List ℕ) → letters_in (drawn_from first second text) ≡ sum_by letters_drawn text
from_is first second [] = refl
from_is first second (b ∷ bs) =
    sum_by-append letters_at (drawn_after first second b) (drawn_from second b bs)
    ∙ (ap₂ (λ (m n : ℕ). m + n) (after_is first second b) (from_is second b bs) ∙ sym (sum_by-cons letters_drawn b bs))

pub text_is : (text : List ℕ) → letters_in (drawn_text text) ≡ sum_by letters_drawn text
text_is text = from_is 0 0 text

-- ---- a width that fits 64 bits

least_of : (n : ℕ) → SFits w64 (pos n) → pos n ≡ pos (min n (2 ^ 63 - 1))
least_of n fits = omega (arith, ints, clamps)

most_of : (n : ℕ) → (SFits w64 (pos n) → ⊥) → pos 9223372036854775807 ≡ pos (min n (2 ^ 63 - 1))
most_of n not_fits =
    elim (cases_lt n (2 ^ 63)) [
      | inl low ↦ absurd (not_fits (search rules))
      | inr high ↦ omega (arith, ints, clamps)
    ]

-- a number as the nearest one of 64 bits
pub nearest : {E : Type 0} (n : ℕ) (r : Result ℤ E) (given : ℤ) → OkIff r (SFits w64 (pos n)) (pos n) → given ≡ result_unwrap_or r (pos 9223372036854775807)
    → given ≡ pos (min n (2 ^ 63 - 1))
nearest n (Ok x) given is e = e ∙ (is.1 ∙ least_of n is.0)
nearest n (Err d) given is e = e ∙ most_of n is
