-- What escaping makes of bytes is text.
use Rattle.kit_words.proofs.Common.{◌≡◌, ℕ, ◌<◌, ◌==◌, ◌⊎◌, inl, inr, List, [], ◌∷◌, ◌++◌, Bool, true, false, refl}
use Rattle.kit_words.proofs.Common.{arith, lit<, if◌then◌else◌, eqb-false, lt-ltb, eqb_tells}
use Rattle.svg_text.specs.Common.{escaped, escaped_from, escaped_byte, escaped_after, ends_noncharacter, is_control}
use Rattle.svg_text.specs.Common.{IsXmlText, IsPlain, none, plain, reference, ampersand, less, greater, quote, apostrophe}
use Rattle.svg_text.specs.Common.{return}

-- a choice has what both of its sides have
by_test : (t : Bool) (x y : List ℕ) (P : List ℕ → Type 0) → (t ≡ true → P x) → (t ≡ false → P y) → P (if t then x else y)
by_test true x y P one other = one refl
by_test false x y P one other = other refl

-- a byte of a character beyond ASCII means itself
high : (b : ℕ) → 127 < b → IsPlain b
high b h = record {
  no_ampersand = λ e. absurd (omega arith);
  no_less = λ e. absurd (omega arith);
  no_greater = λ e. absurd (omega arith);
  no_quote = λ e. absurd (omega arith);
  no_apostrophe = λ e. absurd (omega arith);
  no_control = λ low. absurd (omega arith);
}

tab_or_line : (b : ℕ) → is_control b ≡ false → b < 32 → (b ≡ 9) ⊎ (b ≡ 10)
tab_or_line b fine low =
    elim (eqb_tells b 9) [
      | inl tab ↦ inl tab.1
      | inr not_tab ↦ elim (eqb_tells b 10) [
        | inl line ↦ inr line.1
        | inr not_line ↦ let bad : true ≡ false = rw (lt-ltb b 32 low, not_tab.0, not_line.0) at fine in absurd (cc)
      ]
    ]

text_byte : (b : ℕ) (bs : List ℕ) → IsXmlText bs → IsXmlText (escaped_byte b ++ bs)
text_byte b bs rest =
    let P : List ℕ → Type 0 = λ z. IsXmlText (z ++ bs) in
    by_test (b == 38) _ _ P (λ _. reference ampersand rest) (λ n38.
    by_test (b == 60) _ _ P (λ _. reference less rest) (λ n60.
    by_test (b == 62) _ _ P (λ _. reference greater rest) (λ n62.
    by_test (b == 34) _ _ P (λ _. reference quote rest) (λ n34.
    by_test (b == 39) _ _ P (λ _. reference apostrophe rest) (λ n39.
    by_test (b == 13) _ _ P (λ _. reference return rest) (λ _.
    by_test (is_control b) _ _ P
    (λ _. plain (high 239 (lit< tt)) (plain (high 191 (lit< tt)) (plain (high 189 (lit< tt)) rest)))
    (λ fine. plain (record {
      no_ampersand = eqb-false b 38 n38;
      no_less = eqb-false b 60 n60;
      no_greater = eqb-false b 62 n62;
      no_quote = eqb-false b 34 n34;
      no_apostrophe = eqb-false b 39 n39;
      no_control = tab_or_line b fine;
    }) rest)))))))

text_after : (first second b : ℕ) (bs : List ℕ) → IsXmlText bs → IsXmlText (escaped_after first second b ++ bs)
text_after first second b bs rest =
    let P : List ℕ → Type 0 = λ z. IsXmlText (z ++ bs) in
    by_test (ends_noncharacter first second b) _ _ P (λ _. plain (high 189 (lit< tt)) rest) (λ _. text_byte b bs rest)

text_from : (first second : ℕ) (bytes : List ℕ) → IsXmlText (escaped_from first second bytes)
text_from first second [] = none
text_from first second (b ∷ bs) = text_after first second b (escaped_from second b bs) (text_from second b bs)

pub is_text : (bytes : List ℕ) → IsXmlText (escaped bytes)
is_text bytes = text_from 0 0 bytes
