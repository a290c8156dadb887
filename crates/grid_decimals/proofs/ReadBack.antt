-- What is written of a number is read as the same number again.
use Rattle.kit_words.proofs.Common.{◌≡◌, ℕ, zero, suc, ◌+◌, ◌-◌, ◌*◌, ◌/◌, ◌%◌, ◌<◌, ◌≤◌, ◌^◌, refl, ap, ap₂, subst, sym, ◌∙◌, arith, ints}
use Rattle.kit_words.proofs.Common.{Bool, true, false, ◌==◌, nat_lt, and_from, and_parts, cases_Bool, cond-false, cond-true, eqb-true, inl, inr}
use Rattle.kit_words.proofs.Common.{lt-ltb, nat_tests, List, [], ◌∷◌, ◌++◌, append-nil, codes, decimal, drop, drop-append_seam, length}
use Rattle.kit_words.proofs.Common.{length-append, length-prefix_len, length-replicate, list_all, list_all-append, prefix_len, replicate, reverse}
use Rattle.kit_words.proofs.Common.{reverse-append, reverse-reverse, take, take-append_seam, take_all, pow-add, pow-suc, Some, option_map}
use Rattle.kit_words.proofs.Common.{ℤ, pos, negsuc, ◌+ℤ◌, ◌-ℤ◌, unsigned_abs, div-le_self, eqb-false, int_lt, le-ltb}
use Rattle.std.proofs.lemmas.Fmt.{decimal_by_steps_wide, length-decimal-le_wide}
use Rattle.json_spans.specs.Common.{digits_len, is_digit, is_zero, value_from}
use Rattle.decimal_texts.specs.Common.{Parts, behind_digits, behind_integer, digits_of, exponent_of, parts_of, unsigned, with_exponent}
use Rattle.decimal_texts.proofs.Values.{value_from-append}
use Rattle.grid_decimals.specs.Common.{IsReadBack, at_least_zero, fraction_text, padded, shortest, units_of}
use Rattle.grid_decimals.specs.Common.{units_text, with_sign, without_zeros_behind, zeros_at_end}
use Rattle.grid_decimals.proofs.Powers.{power_mono, power_pos, scaled_grows, scaled_more}
use Rattle.grid_decimals.proofs.Shortest.{shortest_none, shortest_step, shortest_stop}
use Rattle.grid_decimals.proofs.Trimming.{length_trimmed, trimmed_first, zeros_within}

-- ---- digits without the zeros behind them, and as many zeros

zeros_more : (xs : List ℕ) → zeros_at_end (xs ++ 48 ∷ []) ≡ zeros_at_end xs + 1
zeros_more xs =
    let more : prefix_len is_zero (reverse (xs ++ 48 ∷ [])) ≡ 1 + prefix_len is_zero (reverse xs) =
    ap (prefix_len is_zero) (reverse-append xs (48 ∷ [])) in
    omega (arith, length-prefix_len is_zero (reverse (xs ++ 48 ∷ [])), more, length-prefix_len is_zero (reverse xs))

zeros_none : (xs : List ℕ) (x : ℕ) → is_zero x ≡ false → zeros_at_end (xs ++ x ∷ []) ≡ 0
zeros_none xs x e =
    length-prefix_len is_zero (reverse (xs ++ x ∷ []))
    ∙ (ap (prefix_len is_zero) (reverse-append xs (x ∷ [])) ∙ cond-false (is_zero x) (1 + prefix_len is_zero (reverse xs)) 0 e)

abbrev IsScaled : List ℕ → Type 0
IsScaled ds = value_from 0 (without_zeros_behind ds) * 10 ^ zeros_at_end ds ≡ value_from 0 ds

value_more : (m : ℕ) (xs : List ℕ) (x : ℕ) → value_from m (xs ++ x ∷ []) ≡ value_from m xs * 10 + (x - 48)
unfolding value_from
value_more m xs x = value_from-append m xs (x ∷ [])

zero_behind : (xs : List ℕ) → IsScaled xs → IsScaled (xs ++ 48 ∷ [])
zero_behind xs h =
    let cut : value_from 0 (without_zeros_behind (xs ++ 48 ∷ [])) ≡ value_from 0 (without_zeros_behind xs) =
    ap (value_from 0) (trimmed_first xs (48 ∷ []) refl) in
    let all : value_from 0 (xs ++ 48 ∷ []) ≡ value_from 0 xs * 10 + 0 = value_more 0 xs 48 in
    ap₂ (λ v t. v * 10 ^ t) cut (zeros_more xs)
    ∙ (scaled_more (value_from 0 (without_zeros_behind xs)) (zeros_at_end xs) ∙ (ap (λ v. v * 10) h ∙ omega (arith, all)))

digit_behind : (xs : List ℕ) (x : ℕ) → is_zero x ≡ false → IsScaled (xs ++ x ∷ [])
digit_behind xs x e =
    let ds = xs ++ x ∷ [] in
    let none : zeros_at_end ds ≡ 0 = zeros_none xs x e in
    let whole : without_zeros_behind ds ≡ ds = take_all (length ds - zeros_at_end ds) ds (omega (arith, none)) in
    ap₂ (λ zs t. value_from 0 zs * 10 ^ t) whole none ∙ omega arith

nothing_scaled : IsScaled []
unfolding value_from
nothing_scaled = refl

scaled_back : (rs : List ℕ) → IsScaled (reverse rs)
scaled_back [] = nothing_scaled
scaled_back (x ∷ rs) =
    subst IsScaled (sym (reverse-append (x ∷ []) rs))
    (elim (cases_Bool (is_zero x)) [
      | inl e ↦ subst (λ y. IsScaled (reverse rs ++ y ∷ [])) (sym (eqb-true x 48 e)) (zero_behind (reverse rs) (scaled_back rs))
      | inr e ↦ digit_behind (reverse rs) x e
    ])

scaled : (ds : List ℕ) → IsScaled ds
scaled ds = subst IsScaled (reverse-reverse ds) (scaled_back (reverse ds))

-- ---- digits in two rows, in units of the last of so many decimals

shift : (k w f t s : ℕ) (z : ℤ) → s + t ≡ w + f → f ≤ k → z ≡ pos k +ℤ ((pos 0 +ℤ pos w) -ℤ pos s) → at_least_zero z ≡ (k - f) + t
shift k w f t s (pos n) e h is = omega (arith, ints)
shift k w f t s (negsuc n) e h is = absurd (omega (arith, ints))

abbrev parts_from : Bool → List ℕ → List ℕ → Parts
parts_from is_negative integer fraction =
    record { is_negative = is_negative; integer = integer; fraction = fraction; exponent = pos 0 }

units_from : (k : ℕ) (is_negative : Bool) (us fs : List ℕ) → length fs ≤ k
    → units_of k (parts_from is_negative us fs) ≡ with_sign is_negative (value_from 0 (us ++ fs) * 10 ^ (k - length fs))
units_from k is_negative us fs h =
    let ds = us ++ fs in
    let size = value_from 0 (without_zeros_behind ds) in
    let zeros = zeros_at_end ds in
    let rest = k - length fs in
    let kept : length (without_zeros_behind ds) + zeros_at_end ds ≡ length us + length fs =
    omega (arith, length_trimmed ds, zeros_within ds, length-append us fs) in
    let power : at_least_zero (pos k +ℤ ((pos 0 +ℤ pos (length us)) -ℤ pos (length (without_zeros_behind ds)))) ≡ rest + zeros =
    shift k (length us) (length fs) zeros (length (without_zeros_behind ds))
    (pos k +ℤ ((pos 0 +ℤ pos (length us)) -ℤ pos (length (without_zeros_behind ds)))) kept h refl in
    ap (with_sign is_negative)
    (ap (λ j. size * 10 ^ j) power ∙ (ap (λ q. size * q) (pow-add 10 rest zeros)
    ∙ (turned size (10 ^ rest) (10 ^ zeros) ∙ ap (λ v. v * 10 ^ rest) (scaled ds))))
  where
    turned : (a b c : ℕ) → a * (b * c) ≡ (a * c) * b
    turned a b c = omega arith

-- ---- the digits of a number

record IsWritten (n : ℕ) (ds : List ℕ) : Type 0 where
  all : list_all is_digit ds ≡ true
  some : 0 < length ds
  value : value_from 0 ds ≡ n

one_digit : (n : ℕ) → n < 10 → is_digit (48 + n) ≡ true
one_digit n h = grind (arith, nat_tests)

written_one : (n : ℕ) → n < 10 → IsWritten n ((48 + n) ∷ [])
unfolding value_from
written_one n h = record { all = and_from _ _ (one_digit n h) refl; some = omega arith; value = omega arith }

written_more : (n : ℕ) (ds : List ℕ) → 10 ≤ n → IsWritten (n / 10) ds → IsWritten n (ds ++ (48 + n % 10) ∷ [])
written_more n ds h w =
    let low : n % 10 < 10 = omega arith in
    record {
      all = list_all-append is_digit ds ((48 + n % 10) ∷ []) ∙ and_from _ _ w.all (and_from _ _ (one_digit (n % 10) low) refl);
      some = omega (arith, length-append ds ((48 + n % 10) ∷ []));
      value = omega (arith, value_more 0 ds (48 + n % 10), w.value);
    }

written : (n : ℕ) → n < 10 ^ 64 → IsWritten n (decimal n)
written n h = decimal_by_steps_wide IsWritten written_one written_more n h

-- ---- zeros before them

value_shifted : (m : ℕ) (xs : List ℕ) → value_from m xs ≡ m * 10 ^ length xs + value_from 0 xs
unfolding value_from
value_shifted m [] = omega arith
value_shifted m (x ∷ xs) =
    omega (arith, value_shifted (m * 10 + (x - 48)) xs, value_shifted (0 * 10 + (x - 48)) xs, ap (λ q. m * q) (pow-suc 10 (length xs)))

zeros_first : (t : ℕ) (ds : List ℕ) → value_from 0 (replicate t 48 ++ ds) ≡ value_from 0 ds
unfolding value_from
zeros_first zero ds = refl
zeros_first (suc t) ds = zeros_first t ds

zeros_digits : (t : ℕ) → list_all is_digit (replicate t 48) ≡ true
zeros_digits zero = refl
zeros_digits (suc t) = zeros_digits t

padded_length : (k : ℕ) (ds : List ℕ) → length ds ≤ k → length (padded k ds) ≡ k
padded_length k ds h = omega (arith, length-append (replicate (k - length ds) 48) ds, length-replicate {A = ℕ} (k - length ds) 48)

padded_digits : (k : ℕ) (ds : List ℕ) → list_all is_digit ds ≡ true → list_all is_digit (padded k ds) ≡ true
padded_digits k ds h = list_all-append is_digit (replicate (k - length ds) 48) ds ∙ and_from _ _ (zeros_digits (k - length ds)) h

padded_value : (m k : ℕ) (ds : List ℕ) → length ds ≤ k → value_from m (padded k ds) ≡ m * 10 ^ k + value_from 0 ds
padded_value m k ds h =
    value_shifted m (padded k ds)
    ∙ ap₂ (λ j v. m * 10 ^ j + v) (padded_length k ds h) (zeros_first (k - length ds) ds)

-- ---- digits, and what follows them

run : (us r : List ℕ) → list_all is_digit us ≡ true → digits_len r ≡ 0 → digits_len (us ++ r) ≡ length us
run [] r h none = none
run (x ∷ us) r h none =
    let p = and_parts (is_digit x) (list_all is_digit us) h in
    omega (arith, cond-true (is_digit x) (1 + digits_len (us ++ r)) 0 p.0, run us r p.1 none)

front : (us r : List ℕ) → digits_len (us ++ r) ≡ length us → digits_of (us ++ r) ≡ us
front us r e = ap (λ n. take n (us ++ r)) e ∙ take-append_seam us r

rest_of : (us r : List ℕ) → digits_len (us ++ r) ≡ length us → behind_digits (us ++ r) ≡ r
rest_of us r e = ap (λ n. drop n (us ++ r)) e ∙ drop-append_seam us r

read_unsigned : (s : Bool) (us r : List ℕ) → list_all is_digit us ≡ true → 0 < length us → digits_len r ≡ 0
    → unsigned s (us ++ r) ≡ behind_integer s us r
read_unsigned s us r h some none =
    let len : digits_len (us ++ r) ≡ length us = run us r h none in
    let first : 0 < digits_len (us ++ r) = omega (arith, len) in
    cond-true (nat_lt 0 (digits_len (us ++ r))) _ _ (lt-ltb 0 (digits_len (us ++ r)) first)
    ∙ ap₂ (behind_integer s) (front us r len) (rest_of us r len)

read_fraction : (s : Bool) (us fs : List ℕ) → list_all is_digit fs ≡ true → 0 < length fs
    → behind_integer s us (46 ∷ fs) ≡ Some (parts_from s us fs)
read_fraction s us fs h some =
    let len : digits_len (fs ++ []) ≡ length fs = run fs [] h refl in
    let same : digits_len fs ≡ length fs = ap digits_len (sym (append-nil fs)) ∙ len in
    let first : 0 < digits_len fs = omega (arith, same) in
    let digits : digits_of fs ≡ fs = ap digits_of (sym (append-nil fs)) ∙ front fs [] len in
    let behind : behind_digits fs ≡ [] = ap behind_digits (sym (append-nil fs)) ∙ rest_of fs [] len in
    cond-true (nat_lt 0 (digits_len fs)) _ _ (lt-ltb 0 (digits_len fs) first)
    ∙ ap₂ (λ (d r : List ℕ). with_exponent s us d (exponent_of r)) digits behind

-- ---- what is written with all decimals

-- the digits after the point
abbrev fraction_digits : ℕ → ℕ → List ℕ
fraction_digits zero r = []
fraction_digits (suc j) r = padded (suc j) (decimal r)

few_digits : (j n : ℕ) → suc j ≤ 36 → length (decimal (n % 10 ^ suc j)) ≤ suc j
few_digits j n h =
    let low : n % 10 ^ suc j < 10 ^ suc j = omega (arith, power_pos (suc j)) in
    length-decimal-le_wide (suc j) (n % 10 ^ suc j) (omega arith) low (omega (arith, low, power_mono (suc j) 36 h))

fraction_written : (j n : ℕ) → suc j ≤ 36 → IsWritten (n % 10 ^ suc j) (decimal (n % 10 ^ suc j))
fraction_written j n h =
    let low : n % 10 ^ suc j < 10 ^ suc j = omega (arith, power_pos (suc j)) in
    written (n % 10 ^ suc j) (omega (arith, low, power_mono (suc j) 36 h))

integer_written : (j n : ℕ) → n < 10 ^ 64 → IsWritten (n / 10 ^ j) (decimal (n / 10 ^ j))
integer_written j n lt = written (n / 10 ^ j) (omega (arith, div-le_self n (10 ^ j)))

fraction_length : (j n : ℕ) → j ≤ 36 → length (fraction_digits j (n % 10 ^ j)) ≡ j
fraction_length zero n h = refl
fraction_length (suc j) n h = padded_length (suc j) (decimal (n % 10 ^ suc j)) (few_digits j n h)

read_units : (s : Bool) (j n : ℕ) → j ≤ 36 → n < 10 ^ 64
    → unsigned s (units_text (j, n)) ≡ Some (parts_from s (decimal (n / 10 ^ j)) (fraction_digits j (n % 10 ^ j)))
read_units s zero n h lt =
    let w = integer_written zero n lt in
    read_unsigned s (decimal (n / 10 ^ zero)) [] w.all w.some refl
read_units s (suc j) n h lt =
    let w = integer_written (suc j) n lt in
    let d = fraction_written j n h in
    let fs = padded (suc j) (decimal (n % 10 ^ suc j)) in
    let some : 0 < length (padded (suc j) (decimal (n % 10 ^ suc j))) = omega (arith, padded_length (suc j) (decimal (n % 10 ^ suc j)) (few_digits j n h)) in
    read_unsigned s (decimal (n / 10 ^ suc j)) (46 ∷ fs) w.all w.some refl
    ∙ read_fraction s (decimal (n / 10 ^ suc j)) fs (padded_digits (suc j) (decimal (n % 10 ^ suc j)) d.all) some

divided : (n p : ℕ) → 0 < p → n / p * p + n % p ≡ n
divided n p h = omega arith

units_value : (j n : ℕ) → j ≤ 36 → n < 10 ^ 64
    → value_from 0 (decimal (n / 10 ^ j) ++ fraction_digits j (n % 10 ^ j)) ≡ n
units_value zero n h lt =
    ap (value_from 0) (append-nil (decimal (n / 10 ^ zero))) ∙ ((integer_written zero n lt).value ∙ omega arith)
units_value (suc j) n h lt =
    let fs = padded (suc j) (decimal (n % 10 ^ suc j)) in
    value_from-append 0 (decimal (n / 10 ^ suc j)) fs
    ∙ (ap (λ m. value_from m fs) (integer_written (suc j) n lt).value
    ∙ (padded_value (n / 10 ^ suc j) (suc j) (decimal (n % 10 ^ suc j)) (few_digits j n h)
    ∙ (ap (λ v. n / 10 ^ suc j * 10 ^ suc j + v) (fraction_written j n h).value ∙ divided n (10 ^ suc j) (power_pos (suc j)))))

-- ---- as few decimals as a number has

record IsShort (k m : ℕ) (u : ℕ × ℕ) : Type 0 where
  low : u.0 ≤ k
  value : u.1 * 10 ^ (k - u.0) ≡ m

short_more : (k m : ℕ) (u : ℕ × ℕ) → m % 10 ≡ 0 → IsShort k (m / 10) u → IsShort (suc k) m u
short_more k m u e w =
    let next : suc k - u.0 ≡ suc (k - u.0) = omega (arith, w.low) in
    record {
      low = omega (arith, w.low);
      value = ap (λ j. u.1 * 10 ^ j) next ∙ omega (arith, ap (λ q. u.1 * q) (pow-suc 10 (k - u.0)), w.value);
    }

short_whole : (k m : ℕ) → IsShort k m (k, m)
short_whole k m =
    let none : k - k ≡ 0 = omega arith in
    record { low = omega arith; value = ap (λ j. m * 10 ^ j) none ∙ omega arith }

short : (k m : ℕ) → IsShort k m (shortest k m)
short zero m = subst (IsShort zero m) (sym (shortest_none m)) (short_whole zero m)
short (suc k) m =
    elim (cases_Bool (m % 10 == 0)) [
      | inl e ↦
          let zero_behind : m % 10 ≡ 0 = eqb-true (m % 10) 0 e in
          let back : suc k - 1 ≡ k = omega arith in
          let some : 1 ≤ suc k = omega arith in
          let step : shortest (suc k) m ≡ shortest k (m / 10) = shortest_step (suc k) m some zero_behind ∙ ap (λ j. shortest j (m / 10)) back in
          subst (IsShort (suc k) m) (sym step) (short_more k m (shortest k (m / 10)) zero_behind (short k (m / 10)))
      | inr e ↦ subst (IsShort (suc k) m) (sym (shortest_stop (suc k) m (eqb-false (m % 10) 0 e))) (short_whole (suc k) m)
    ]

-- ---- and read

no_minus : (x : ℕ) → is_digit x ≡ true → (x == 45) ≡ false
no_minus x h = grind (arith, nat_tests)

plain : (us r : List ℕ) → list_all is_digit us ≡ true → 0 < length us → parts_of (us ++ r) ≡ unsigned false (us ++ r)
plain [] r h some = absurd (omega arith)
plain (x ∷ us) r h some = cond-false (x == 45) _ _ (no_minus x (and_parts (is_digit x) (list_all is_digit us) h).0)

short_small : (k m : ℕ) → m < 10 ^ 64 → (shortest k m).1 < 10 ^ 64
short_small k m lt = omega (arith, (short k m).value, scaled_grows (shortest k m).1 (k - (shortest k m).0))

back : (s : Bool) (k m : ℕ) → k ≤ 36 → m < 10 ^ 64
    → option_map (units_of k) (unsigned s (units_text (shortest k m))) ≡ Some (with_sign s m)
back s k m h lt =
    let j = (shortest k m).0 in
    let n = (shortest k m).1 in
    let low : (shortest k m).0 ≤ k = (short k m).low in
    let few : (shortest k m).0 ≤ 36 = omega (arith, low) in
    let small : (shortest k m).1 < 10 ^ 64 = short_small k m lt in
    let len : length (fraction_digits j (n % 10 ^ j)) ≡ j = fraction_length j n few in
    let within : length (fraction_digits j (n % 10 ^ j)) ≤ k = subst (λ l. l ≤ k) (sym len) low in
    ap (option_map (units_of k)) (read_units s j n few small)
    ∙ ap Some (units_from k s (decimal (n / 10 ^ j)) (fraction_digits j (n % 10 ^ j)) within
    ∙ ap (with_sign s) (ap₂ (λ v l. v * 10 ^ (k - l)) (units_value j n few small) len ∙ (short k m).value))

not_below : (m : ℕ) → int_lt (pos m) (pos 0) ≡ false
not_below m = le-ltb m 0 (omega arith)

pub read_back : (k : ℕ) (z : ℤ) → k ≤ 36 → unsigned_abs z < 10 ^ 64 → IsReadBack k z
read_back k (pos m) h lt =
    let u = shortest k m in
    let w = integer_written (shortest k m).0 (shortest k m).1 (short_small k m lt) in
    ap (λ (t : List ℕ). option_map (units_of k) (parts_of (t ++ units_text u))) (cond-false _ (codes "-") [] (not_below m))
    ∙ (ap (option_map (units_of k)) (plain (decimal (u.1 / 10 ^ u.0)) (fraction_text u.0 (u.1 % 10 ^ u.0)) w.all w.some)
    ∙ back false k m h lt)
read_back k (negsuc m) h lt = back true k (suc m) h lt
