-- What whole numbers mean.
use Rattle.kit_words.proofs.Common.{◌≡◌, ℕ, zero, suc, ◌+◌, ◌<◌, List, [], ◌∷◌, ◌++◌, length, take, drop, Bool, true}
use Rattle.kit_words.proofs.Common.{false, refl, sym, subst, ◌∙◌, cond, arith, inl, inr, ◌⊎◌, ◌==◌, ◌&&◌, ◌^◌, nat_lt}
use Rattle.kit_words.proofs.Common.{nat_le, ℤ, pos, negsuc, unsigned_abs, Option, Some, None, Ok, Err, list_all, lt-ltb}
use Rattle.kit_words.proofs.Common.{ltb-true, nat_tests, take-append-drop, length-prefix_len, drop-append_seam}
use Rattle.kit_words.proofs.Common.{take-append_seam, and_parts, by_bool}
use Rattle.std.proofs.lemmas.Bool.{eqb-true}
use Rattle.json_spans.specs.Common.{is_digit, Digits, no_digit, digit, SomeDigits, digits, value_from, is_zero}
use Rattle.json_spans.specs.Common.{is_whole_rest, digits_len, whole_digits, signed, whole_of, NoFraction, no_point}
use Rattle.json_spans.specs.Common.{point, IsWhole, plain, negative, held, Means, Form}
use Rattle.json_spans.specs.Whole.{minus}

-- ---- a whole number is read

pub all_digits : {ds : List ℕ} → Digits ds [] → (f : List ℕ) → digits_len f ≡ 0 → digits_len (ds ++ f) ≡ length ds
all_digits no_digit f e = e
all_digits (digit t d) f e = let k = all_digits d f e in rw t (omega (arith, k))

pub fraction_len : {f : List ℕ} → NoFraction f → digits_len f ≡ 0
fraction_len no_point = refl
fraction_len (point z) = refl

fraction_rest : {f : List ℕ} → NoFraction f → is_whole_rest f ≡ true
fraction_rest no_point = refl
fraction_rest (point z) = z

digits_read : {ds f : List ℕ} → SomeDigits ds [] → NoFraction f → whole_digits (ds ++ f) ≡ Some ds
digits_read {f = f} (digits {x = x} {xs = xs} t d) n =
    let ds = x ∷ xs in
    let len : digits_len (ds ++ f) ≡ length ds = all_digits (digit {x = x} t d) f (fraction_len n) in
    let some : nat_lt 0 (length ds) ≡ true = lt-ltb _ _ (omega arith) in
    rw (len, drop-append_seam ds f, take-append_seam ds f, some, fraction_rest n) refl

pub digit_no_minus : (x : ℕ) → is_digit x ≡ true → (x == 45) ≡ false
digit_no_minus x e = grind (arith, nat_tests)

held_minus : (v : ℕ) → signed true v ≡ held (minus v)
held_minus zero = refl
held_minus (suc n) = refl

pub whole_is : (bytes : List ℕ) (z : ℤ) → IsWhole bytes z → whole_of bytes ≡ held z
whole_is bytes z (plain {fraction = f} (digits {x = x} {xs = xs} t d) n) = rw (digit_no_minus x t, digits_read (digits {x = x} t d) n) refl
whole_is bytes z (negative {integer = ds} d n) = rw (digits_read d n) (held_minus (value_from 0 ds))

-- the number, however large
abbrev valued : Bool → Option (List ℕ) → Option ℤ
valued sign None = None
valued true (Some ds) = Some (minus (value_from 0 ds))
valued false (Some ds) = Some (pos (value_from 0 ds))

abbrev number_of : List ℕ → Option ℤ
number_of [] = None
number_of (x ∷ xs) = cond (x == 45) (valued true (whole_digits xs)) (valued false (whole_digits (x ∷ xs)))

number_is : (bytes : List ℕ) (z : ℤ) → IsWhole bytes z → number_of bytes ≡ Some z
number_is bytes z (plain {fraction = f} (digits {x = x} {xs = xs} t d) n) = rw (digit_no_minus x t, digits_read (digits {x = x} t d) n) refl
number_is bytes z (negative {integer = ds} d n) = rw (digits_read d n) refl

-- bytes mean one whole number at most
pub one_whole : (bytes : List ℕ) (y z : ℤ) → IsWhole bytes y → IsWhole bytes z → y ≡ z
one_whole bytes y z d e = let same : Some y ≡ Some z = sym (number_is bytes y d) ∙ number_is bytes z e in cc

-- ---- what is read is a whole number

taken : (xs : List ℕ) → Digits (take (digits_len xs) xs) []
taken [] = no_digit
taken (x ∷ xs) = by_test (is_digit x) refl (taken xs) where
  by_test : (b : Bool) → is_digit x ≡ b → Digits (take (digits_len xs) xs) [] → Digits (take (digits_len (x ∷ xs)) (x ∷ xs)) []
  by_test true t d = let next : 1 + digits_len xs ≡ suc (digits_len xs) = omega arith in rw (t, next) (digit {x = x} t d)
  by_test false t d = rw t no_digit

some_digits : {ds : List ℕ} → Digits ds [] → 0 < length ds → SomeDigits ds []
some_digits no_digit lt = absurd (omega arith)
some_digits (digit t d) lt = digits t d

no_fraction : (f : List ℕ) → is_whole_rest f ≡ true → NoFraction f
no_fraction [] e = no_point
no_fraction (x ∷ xs) e =
    let h = and_parts (x == 46) (list_all is_zero xs) e in
    subst (λ x. NoFraction (x ∷ xs)) (sym (eqb-true x 46 h.0)) (point h.1)

-- the digits of a whole number and its fraction
record Cut (xs ds : List ℕ) : Type 0 where
  fraction : List ℕ
  is : ds ++ fraction ≡ xs
  some : SomeDigits ds []
  none : NoFraction fraction

cut : (xs ds : List ℕ) → whole_digits xs ≡ Some ds → Cut xs ds
cut xs ds e = by_test (nat_lt 0 (digits_len xs) && is_whole_rest (drop (digits_len xs) xs)) refl e where
  by_test : (b : Bool) → (nat_lt 0 (digits_len xs) && is_whole_rest (drop (digits_len xs) xs)) ≡ b → cond b (Some (take (digits_len xs) xs)) None ≡ Some ds → Cut xs ds
  by_test true t e =
      let h = and_parts (nat_lt 0 (digits_len xs)) (is_whole_rest (drop (digits_len xs) xs)) t in
      let some : 0 < length (take (digits_len xs) xs) = omega (arith, ltb-true _ _ h.0, length-prefix_len is_digit xs) in
      let same : take (digits_len xs) xs ≡ ds = cc in
      subst (Cut xs) same (record {
        fraction = drop (digits_len xs) xs;
        is = take-append-drop (digits_len xs) xs;
        some = some_digits (taken xs) some;
        none = no_fraction (drop (digits_len xs) xs) h.1;
      })
  by_test false t e = absurd cc

abbrev Whole : List ℕ → Type 0
Whole bytes = (z : ℤ) × IsWhole bytes z

by_digits : {G : Type 0} (o : Option (List ℕ)) → ((ds : List ℕ) → o ≡ Some ds → G) → (o ≡ None → G) → G
by_digits None f g = g refl
by_digits (Some ds) f g = f ds refl

minus_digits : (x : ℕ) (xs : List ℕ) → (x == 45) ≡ true → Whole (x ∷ xs) ⊎ (whole_of (x ∷ xs) ≡ Err Form)
minus_digits x xs t =
    by_digits (whole_digits xs)
    (λ ds e. let c = cut xs ds e in
    inl (subst Whole (rw (eqb-true x 45 t, c.is) refl) (let w : Whole (45 ∷ (ds ++ c.fraction)) = (minus (value_from 0 ds), negative c.some c.none) in w)))
    (λ e. inr (rw (t, e) refl))

plain_digits : (x : ℕ) (xs : List ℕ) → (x == 45) ≡ false → Whole (x ∷ xs) ⊎ (whole_of (x ∷ xs) ≡ Err Form)
plain_digits x xs t =
    by_digits (whole_digits (x ∷ xs))
    (λ ds e. let c = cut (x ∷ xs) ds e in inl (subst Whole c.is (pos (value_from 0 ds), plain c.some c.none)))
    (λ e. inr (rw (t, e) refl))

decide : (bytes : List ℕ) → Whole bytes ⊎ (whole_of bytes ≡ Err Form)
decide [] = inr refl
decide (x ∷ xs) = by_test (x == 45) refl where
  by_test : (b : Bool) → (x == 45) ≡ b → Whole (x ∷ xs) ⊎ (whole_of (x ∷ xs) ≡ Err Form)
  by_test true t = minus_digits x xs t
  by_test false t = plain_digits x xs t

-- ---- the answer

held_no_form : (z : ℤ) → held z ≡ Err Form → ⊥
held_no_form (pos n) e = by_bool (nat_lt n (2 ^ 63)) (λ t. let h = rw t at e in absurd cc) (λ t. let h = rw t at e in absurd cc)
held_no_form (negsuc n) e = by_bool (nat_le (suc n) (2 ^ 63)) (λ t. let h = rw t at e in absurd cc) (λ t. let h = rw t at e in absurd cc)

held_means : (bytes : List ℕ) (z : ℤ) → IsWhole bytes z → Means (held z) bytes
held_means bytes (pos n) d = by_bool (nat_lt n (2 ^ 63)) (λ t. rw t d) (λ t. rw t (pos n, d, rw t refl))
held_means bytes (negsuc n) d = by_bool (nat_le (suc n) (2 ^ 63)) (λ t. rw t d) (λ t. rw t (negsuc n, d, rw t refl))

pub means : (bytes : List ℕ) → Means (whole_of bytes) bytes
means bytes = elim (decide bytes) [
  | inl w ↦ rw (whole_is bytes w.0 w.1) (held_means bytes w.0 w.1)
  | inr e ↦ rw e (λ z d. held_no_form z (sym (whole_is bytes z d) ∙ e))
]

-- a number that 64 bits with a sign hold
small_held : (z : ℤ) → unsigned_abs z < 2 ^ 63 → held z ≡ Ok z
small_held (pos n) h = let fits : nat_lt n (2 ^ 63) ≡ true = lt-ltb _ _ h in rw fits refl
small_held (negsuc n) h = let fits : nat_le (suc n) (2 ^ 63) ≡ true = search (arith, nat_tests) in rw fits refl

pub whole_read : (bytes : List ℕ) (z : ℤ) → IsWhole bytes z → unsigned_abs z < 2 ^ 63 → whole_of bytes ≡ Ok z
whole_read bytes z d h = whole_is bytes z d ∙ small_held z h

pub whole_meant : (bytes : List ℕ) (z : ℤ) → whole_of bytes ≡ Ok z → IsWhole bytes z
whole_meant bytes z e = subst (λ r. Means r bytes) e (means bytes)
