-- Digits in front, of which the first is no needless 0, are the text of the number that they are.
use Rattle.kit_words.proofs.Common.{◌≡◌, ℕ, pos, ◌+◌, ◌*◌, ◌-◌, ◌<◌, ◌≤◌, ◌^◌, ◌++◌, List, [], ◌∷◌, length, take, drop}
use Rattle.kit_words.proofs.Common.{get_or, refl, sym, ap, ◌∙◌, subst, arith, IsInRange, digit_value, AllDigits}
use Rattle.kit_words.proofs.Common.{digits_value, decimal-digits_value, digit_value_digit, digits_value_more}
use Rattle.kit_words.proofs.Common.{take-append-drop, length-take-le}
use Rattle.std.specs.Fmt.{decimal}
use Rattle.std.proofs.lemmas.Str.Parse.{IsNumeralModel, numerals_by_value, tells_digits, digits_value_short}
use Rattle.script_lines.specs.Common.{EndsWord, WithoutNeedlessZero, IsSpaced}

own : IsNumeralModel (AllDigits 10) (digits_value 10)
own = numerals_by_value (AllDigits 10) tells_digits

-- ---- one digit more

pub digit_below : (x : ℕ) → IsInRange 48 57 x → digit_value x < 10
digit_below x here = omega (arith, digit_value_digit x here)

pub one_more : (bytes : List ℕ) (len value digit : ℕ) → len < length bytes → value ≡ digits_value 10 (take len bytes) → IsInRange 48 57 (get_or bytes len 0)
    → digit ≡ get_or bytes len 0 - 48 → value * 10 + digit ≡ digits_value 10 (take (len + 1) bytes)
one_more bytes len value digit lt is here e =
    omega (arith, is, e, digit_value_digit (get_or bytes len 0) here, digits_value_more 10 bytes len lt)

-- ---- digits in front

pub front_small : (bytes : List ℕ) (len value most : ℕ) → AllDigits 10 (take len bytes) → value ≡ digits_value 10 (take len bytes) → len ≤ length bytes → len ≤ most
    → value < 10 ^ most
front_small bytes len value most are is within bound =
    let short : length (take len bytes) ≤ most = omega (arith, length-take-le len bytes within) in
    omega (arith, is, digits_value_short own (take len bytes) most are short)

some : (ds : List ℕ) → WithoutNeedlessZero ds → 0 < length ds
some [] plain = absurd plain
some (d ∷ ds) plain = omega arith

lone_zero : (ds : List ℕ) → WithoutNeedlessZero ds → get_or ds 0 0 ≡ 48 → length ds ≡ 1
lone_zero [] plain zero = absurd plain
lone_zero (d ∷ []) plain zero = refl
lone_zero (d ∷ e ∷ ds) plain zero = absurd (plain zero)

pub word_spaced : (bytes word rest : List ℕ) (len value : ℕ) → word ≡ take len bytes → rest ≡ drop len bytes → AllDigits 10 (take len bytes)
    → value ≡ digits_value 10 (take len bytes) → len ≤ length bytes → len ≤ 18 → WithoutNeedlessZero word → EndsWord rest → IsSpaced (32 ∷ bytes) (pos value) rest
word_spaced bytes word rest len value front back are is within bound plain ends =
    let small : value < 10 ^ 18 = front_small bytes len value 18 are is within bound in
    let first : WithoutNeedlessZero (take len bytes) = subst WithoutNeedlessZero front plain in
    let text : decimal (digits_value 10 (take len bytes)) ≡ take len bytes =
    decimal-digits_value own (take len bytes) are (some _ first) (lone_zero _ first) (omega (arith, is)) in
    let whole : bytes ≡ take len bytes ++ rest = sym (ap (λ r. take len bytes ++ r) back ∙ take-append-drop len bytes) in
    record {
      whole = ap (λ t. 32 ∷ t) (whole ∙ ap (λ w. w ++ rest) (sym (ap decimal is ∙ text)));
      ends = ends;
      fits = record { sfits = omega arith };
    }
