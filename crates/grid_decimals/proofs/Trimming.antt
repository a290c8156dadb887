-- Digits without the zeros behind them, where they stand in two rows.
use Rattle.kit_words.proofs.Common.{◌≡◌, ℕ, ◌+◌, ◌-◌, ◌<◌, ◌≤◌, ap, sym, ◌∙◌, arith, Bool, inl, inr, cases_Bool}
use Rattle.kit_words.proofs.Common.{List, ◌++◌, length, take, reverse, length-append, length-reverse}
use Rattle.kit_words.proofs.Common.{reverse-append, append-nil, take_all, length-take, min, ℤ, pos, negsuc, ap₂, ◌+ℤ◌, ◌-ℤ◌, ints, cond-true, cond-false}
use Rattle.kit_words.proofs.Common.{if◌then◌else◌, ◌==◌, eq-eqb, eqb-true, ne_eqb, nil_from_length, eqb-false}
use Rattle.kit_words.proofs.Common.{length-prefix_len, prefix_len, prefix_len-le-length, take_while}
use Rattle.std.proofs.lemmas.List.Folds.{prefix_len-append}
use Rattle.json_spans.specs.Common.{is_zero, value_from}
use Rattle.decimal_texts.proofs.Values.{value_from-append}
use Rattle.decimal_texts.proofs.Cutting.{take-append}
use Rattle.grid_decimals.specs.Common.{without_zeros_behind, zeros_at_end}

-- ---- what passes a test at the begin of two rows

pub passing_most : (p : ℕ → Bool) (xs : List ℕ) → length (take_while p xs) ≤ length xs
passing_most p xs = omega (arith, length-prefix_len p xs, prefix_len-le-length p xs)

passing_both : (p : ℕ → Bool) (xs ys : List ℕ) → length (take_while p xs) ≡ length xs
    → length (take_while p (xs ++ ys)) ≡ length xs + length (take_while p ys)
passing_both p xs ys h =
    let whole : prefix_len p xs ≡ length xs = sym (length-prefix_len p xs) ∙ h in
    length-prefix_len p (xs ++ ys) ∙ (prefix_len-append p xs ys
    ∙ (cond-true _ _ _ (eq-eqb (prefix_len p xs) (length xs) whole) ∙ ap (λ n. length xs + n) (sym (length-prefix_len p ys))))

passing_first : (p : ℕ → Bool) (xs ys : List ℕ) → length (take_while p xs) < length xs
    → length (take_while p (xs ++ ys)) ≡ length (take_while p xs)
passing_first p xs ys h =
    let part : prefix_len p xs ≡ length xs → ⊥ = λ e. absurd (omega (arith, h, e, length-prefix_len p xs)) in
    length-prefix_len p (xs ++ ys) ∙ (prefix_len-append p xs ys
    ∙ (cond-false _ _ _ (ne_eqb (prefix_len p xs) (length xs) part) ∙ sym (length-prefix_len p xs)))

-- ---- zeros behind

pub zeros_within : (ds : List ℕ) → zeros_at_end ds ≤ length ds
zeros_within ds = omega (arith, passing_most is_zero (reverse ds), length-reverse ds)

-- nothing but zeros in the second row: the first without its own
pub trimmed_first : (xs ys : List ℕ) → zeros_at_end ys ≡ length ys → without_zeros_behind (xs ++ ys) ≡ without_zeros_behind xs
trimmed_first xs ys h =
    let whole : length (take_while is_zero (reverse ys)) ≡ length (reverse ys) = h ∙ sym (length-reverse ys) in
    let zeros : zeros_at_end (xs ++ ys) ≡ length (reverse ys) + zeros_at_end xs =
    ap (λ r. length (take_while is_zero r)) (reverse-append xs ys) ∙ passing_both is_zero (reverse ys) (reverse xs) whole in
    let left : length (xs ++ ys) - zeros_at_end (xs ++ ys) ≡ length xs - zeros_at_end xs = omega (arith, zeros, length-append xs ys, length-reverse ys) in
    let none : (length xs - zeros_at_end xs) - length xs ≡ 0 = omega arith in
    ap (λ n. take n (xs ++ ys)) left ∙ (take-append (length xs - zeros_at_end xs) xs ys
    ∙ (ap (λ n. take (length xs - zeros_at_end xs) xs ++ take n ys) none ∙ append-nil _))

-- another digit in the second row: all of the first, and the second without its zeros
pub trimmed_second : (xs ys : List ℕ) → zeros_at_end ys < length ys → without_zeros_behind (xs ++ ys) ≡ xs ++ without_zeros_behind ys
trimmed_second xs ys h =
    let some : length (take_while is_zero (reverse ys)) < length (reverse ys) = omega (arith, length-reverse ys) in
    let zeros : zeros_at_end (xs ++ ys) ≡ zeros_at_end ys =
    ap (λ r. length (take_while is_zero r)) (reverse-append xs ys) ∙ passing_first is_zero (reverse ys) (reverse xs) some in
    let left : length (xs ++ ys) - zeros_at_end (xs ++ ys) ≡ length xs + (length ys - zeros_at_end ys) = omega (arith, zeros, length-append xs ys) in
    let more : (length xs + (length ys - zeros_at_end ys)) - length xs ≡ length ys - zeros_at_end ys = omega arith in
    let all : take (length xs + (length ys - zeros_at_end ys)) xs ≡ xs = take_all (length xs + (length ys - zeros_at_end ys)) xs (omega arith) in
    ap (λ n. take n (xs ++ ys)) left ∙ (take-append (length xs + (length ys - zeros_at_end ys)) xs ys
    ∙ (ap (λ n. take (length xs + (length ys - zeros_at_end ys)) xs ++ take n ys) more ∙ ap (λ zs. zs ++ without_zeros_behind ys) all))

pub length_trimmed : (ds : List ℕ) → length (without_zeros_behind ds) ≡ length ds - zeros_at_end ds
length_trimmed ds =
    let short : length (without_zeros_behind ds) ≡ min (length ds - zeros_at_end ds) (length ds) = length-take (length ds - zeros_at_end ds) ds in
    omega arith

-- ---- both rows, as they are read

-- the digits that are kept of both
pub kept_digits : (xs ys us vs : List ℕ) → vs ≡ without_zeros_behind ys
    → us ≡ (if length vs == 0 then without_zeros_behind xs else xs) → without_zeros_behind (xs ++ ys) ≡ us ++ vs
kept_digits xs ys us vs e f =
    let left : length vs ≡ length ys - zeros_at_end ys = ap length e ∙ length_trimmed ys in
    elim (cases_Bool (length vs == 0)) [
      | inl none ↦ (let empty : length vs ≡ 0 = eqb-true (length vs) 0 none in
          let whole : zeros_at_end ys ≡ length ys = omega (arith, left, zeros_within ys) in
          trimmed_first xs ys whole ∙ (sym (f ∙ cond-true _ _ _ none) ∙ (sym (append-nil us)
          ∙ ap (λ zs. us ++ zs) (sym (nil_from_length vs empty)))))
      | inr some ↦ (let not_empty : 0 < length vs = omega (arith, eqb-false (length vs) 0 some) in
          let part : zeros_at_end ys < length ys = omega (arith, left) in
          trimmed_second xs ys part ∙ ap₂ ◌++◌ (sym (f ∙ cond-false _ _ _ some)) (sym e))
    ]

-- the number that they are
pub kept_size : (xs ys us vs : List ℕ) → vs ≡ without_zeros_behind ys
    → us ≡ (if length vs == 0 then without_zeros_behind xs else xs)
    → value_from 0 (without_zeros_behind (xs ++ ys)) ≡ value_from (value_from 0 us) vs
kept_size xs ys us vs e f = ap (value_from 0) (kept_digits xs ys us vs e f) ∙ value_from-append 0 us vs

-- the power of ten that it is multiplied by
pub kept_power : (z : ℤ) (xs ys us vs : List ℕ) → vs ≡ without_zeros_behind ys
    → us ≡ (if length vs == 0 then without_zeros_behind xs else xs)
    → (z +ℤ (pos (length xs) -ℤ pos (length us))) -ℤ pos (length vs)
    ≡ (z +ℤ pos (length xs)) -ℤ pos (length (without_zeros_behind (xs ++ ys)))
kept_power (pos n) xs ys us vs e f = omega (arith, ints, ap length (kept_digits xs ys us vs e f), length-append us vs)
kept_power (negsuc n) xs ys us vs e f = omega (arith, ints, ap length (kept_digits xs ys us vs e f), length-append us vs)
