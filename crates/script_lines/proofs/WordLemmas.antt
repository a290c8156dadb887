-- A line is cut into words in one way.
use Rattle.kit_words.proofs.Common.{◌≡◌, ℕ, ◌+◌, ◌%◌, ◌<◌, ◌≤◌, ◌^◌, ◌==◌, Bool, true, false, cond, refl, sym, ap, ap₂}
use Rattle.kit_words.proofs.Common.{◌∙◌, subst, List, [], ◌∷◌, ◌++◌, length, take, drop, ℤ, pos, negsuc, arith}
use Rattle.kit_words.proofs.Common.{FitsSigned, w64, Result, Ok, Err, unsigned_abs, suc, append_assoc, take_while}
use Rattle.kit_words.proofs.Common.{nat_lt, nat_le, signed_decimal, digits, FitsUnsignedBits, ParsesUnsigned}
use Rattle.kit_words.proofs.Common.{digits_value, nat_tests, false≢true, lt-ltb, decimal_by_steps}
use Rattle.kit_words.proofs.Common.{signed_decimal_injective, IsAscii-decimal_wide, parse-decimal_wide}
use Rattle.kit_words.proofs.Common.{decimal_is_IsNumeral_wide, IsAscii, bytes_eq, IsUtf8-from_ascii, bytes_eq-Decides}
use Rattle.kit_words.proofs.Common.{take-append-drop, take_while-cons}
use Rattle.std.specs.Fmt.{decimal}
use Rattle.std.specs.Int.Signed.{mag}
use Rattle.std.specs.Str.{IsUtf8}
use Rattle.grid_geometry.specs.Common.{Position, position, InRange}
use Rattle.json_spans.specs.Common.{value_from, held, whole_of}
use Rattle.json_spans.specs.declared.number.NotWhole.{NotWhole}
use Rattle.json_spans.proofs.Common.{whole_is}
use Rattle.map_text.proofs.GrammarNumbers.{whole_written}
use Rattle.script_lines.specs.Common.{spaced, is_letter, EndsWord, IsSpaced, IsFeature, IsPlace}

-- ---- a list that is empty

pub is_nil : (xs : List ℕ) → (length xs == 0) ≡ true → xs ≡ []
is_nil [] h = refl
is_nil (x ∷ xs) h = let k : length xs + 1 ≡ 0 = grind (arith, nat_tests) in absurd (omega arith)

-- ---- words

-- no byte is a space
abbrev pub IsWord : List ℕ → Type 0
IsWord [] = Unit {0}
IsWord (b ∷ bs) = (is_letter b ≡ true) × IsWord bs

abbrev pub rest_of : List ℕ → List ℕ
rest_of bs = drop (length (take_while is_letter bs)) bs

IsWord-append : (bs cs : List ℕ) → IsWord bs → IsWord cs → IsWord (bs ++ cs)
IsWord-append [] cs h k = k
IsWord-append (b ∷ bs) cs h k = (h.0, IsWord-append bs cs h.1 k)

letter : (b : ℕ) → 33 ≤ b → is_letter b ≡ true
letter b h = grind (arith, nat_tests)

decimal_word : (n : ℕ) → n < 2 ^ 64 → IsWord (decimal n)
decimal_word n h =
    decimal_by_steps (λ m ds. IsWord ds) (λ m k. (letter (48 + m) (omega arith), tt))
    (λ m ds k w. IsWord-append ds ((48 + m % 10) ∷ []) w (letter (48 + m % 10) (omega arith), tt)) n h

pub number_word : (z : ℤ) → FitsSigned w64 z → IsWord (signed_decimal z)
number_word (pos n) f = let h : n < 2 ^ 63 = f.sfits in decimal_word n (omega arith)
number_word (negsuc n) f = let h : n < 2 ^ 63 = f.sfits in (refl, decimal_word (suc n) (omega arith))

-- a word in front is what is taken
pub word-taken : (w r : List ℕ) → IsWord w → EndsWord r → take_while is_letter (w ++ r) ≡ w
word-taken [] [] h e = refl
word-taken [] (b ∷ bs) h e = rw (take_while-cons is_letter b bs) (ap (λ x. cond (is_letter x) (x ∷ take_while is_letter bs) []) e)
word-taken (b ∷ bs) r h e = rw (take_while-cons is_letter b (bs ++ r), h.0) (ap (λ t. b ∷ t) (word-taken bs r h.1 e))

pub drop_length : (w r : List ℕ) → drop (length w) (w ++ r) ≡ r
drop_length [] r = refl
drop_length (b ∷ w) r = drop_length w r

pub word-rest : (w r : List ℕ) → IsWord w → EndsWord r → rest_of (w ++ r) ≡ r
word-rest w r h e = rw (word-taken w r h e) (drop_length w r)

-- what is taken, and what it leaves
pub taken-rest : (p : ℕ → Bool) (bs : List ℕ) → take_while p bs ++ drop (length (take_while p bs)) bs ≡ bs
taken-rest p [] = refl
taken-rest p (b ∷ bs) = by (p b) refl (taken-rest p bs)
  where
    by : (t : Bool) → p b ≡ t → take_while p bs ++ drop (length (take_while p bs)) bs ≡ bs → take_while p (b ∷ bs) ++ drop (length (take_while p (b ∷ bs))) (b ∷ bs) ≡ b ∷ bs
    by true e k = rw (take_while-cons p b bs, e) (ap (λ t. b ∷ t) k)
    by false e k = rw (take_while-cons p b bs, e) refl

no_letter : (b : ℕ) → is_letter b ≡ false → b ≡ 32
no_letter b e = grind (arith, nat_tests)

pub rest-ends : (bs : List ℕ) → EndsWord (rest_of bs)
rest-ends [] = tt
rest-ends (b ∷ bs) = by (is_letter b) refl (rest-ends bs)
  where
    by : (t : Bool) → is_letter b ≡ t → EndsWord (rest_of bs) → EndsWord (rest_of (b ∷ bs))
    by true e k = rw (take_while-cons is_letter b bs, e) k
    by false e k = rw (take_while-cons is_letter b bs, e) (no_letter b e)

-- ---- numbers

pub mag_small : (z : ℤ) → FitsSigned w64 z → mag z < 2 ^ 63
mag_small z f = f.sfits

-- ---- numbers behind a space

pub spaced_found : (tail : List ℕ) (z : ℤ) → FitsSigned w64 z → take_while is_letter tail ≡ signed_decimal z → IsSpaced (32 ∷ tail) z (rest_of tail)
spaced_found tail z f e = record {
  whole = ap (λ t. 32 ∷ t) (sym (taken-rest is_letter tail) ∙ ap (λ w. w ++ rest_of tail) e);
  ends = rest-ends tail;
  fits = f;
}

tail_is : (b : ℕ) (tail r : List ℕ) (z : ℤ) → b ∷ tail ≡ spaced z ++ r → tail ≡ signed_decimal z ++ r
tail_is b tail r z e = cc

pub spaced_word : (b : ℕ) (tail r : List ℕ) (z : ℤ) → IsSpaced (b ∷ tail) z r → take_while is_letter tail ≡ signed_decimal z
spaced_word b tail r z s =
    ap (take_while is_letter) (tail_is b tail r z s.whole) ∙ word-taken (signed_decimal z) r (number_word z s.fits) s.ends

spaced_rest : (b : ℕ) (tail r : List ℕ) (z : ℤ) → IsSpaced (b ∷ tail) z r → rest_of tail ≡ r
spaced_rest b tail r z s = ap rest_of (tail_is b tail r z s.whole) ∙ word-rest (signed_decimal z) r (number_word z s.fits) s.ends

-- a list follows a space in one way alone
pub spaced_once : (bs r t : List ℕ) (y z : ℤ) → IsSpaced bs y r → IsSpaced bs z t → (y ≡ z) × (r ≡ t)
spaced_once [] r t y z s k = absurd (nothing s.whole)
  where
    nothing : [] ≡ spaced y ++ r → ⊥
    nothing h = cc
spaced_once (b ∷ tail) r t y z s k = (
  signed_decimal_injective y z (mag_small y s.fits) (mag_small z k.fits) (sym (spaced_word b tail r y s) ∙ spaced_word b tail t z k),
  sym (spaced_rest b tail r y s) ∙ spaced_rest b tail t z k,
)

-- ---- the number of a feature

pub feature_spaced : (bs r : List ℕ) (n : ℕ) → IsFeature bs n r → IsSpaced bs (pos n) r
feature_spaced bs r n f = record { whole = f.whole; ends = f.ends; fits = record { sfits = omega (arith, f.range) } }

pub feature_huge : (bs r t : List ℕ) (z : ℤ) (n : ℕ) → IsSpaced bs z r → ((m : ℕ) → z ≡ pos m → m < 2 ^ 32 → ⊥) → IsFeature bs n t → ⊥
feature_huge bs r t z n s out f = out n (spaced_once bs r t z (pos n) s (feature_spaced bs t n f)).0 f.range

pub fits_along : (n : ℕ) (y z : ℤ) → y ≡ z → z ≡ pos n → n < 2 ^ 32 → FitsUnsignedBits 32 y
fits_along n y z e f h = subst (FitsUnsignedBits 32) (sym (e ∙ f)) h

pos_once : (m n : ℕ) → pos m ≡ pos n → m ≡ n
pos_once m n e = cc

-- the number of a feature follows a space in one way alone
pub feature_once : (bs r t : List ℕ) (m n : ℕ) → IsFeature bs m r → IsFeature bs n t → (m ≡ n) × (r ≡ t)
feature_once bs r t m n s k =
    let same = spaced_once bs r t (pos m) (pos n) (feature_spaced bs r m s) (feature_spaced bs t n k) in
    (pos_once m n same.0, same.1)

-- ---- positions

pub fits_in_range : (z : ℤ) → unsigned_abs z ≤ 1000000000000 → FitsSigned w64 z
fits_in_range (pos n) h = record { sfits = omega arith }
fits_in_range (negsuc n) h = record { sfits = omega arith }

spaced_ends : (z : ℤ) (r : List ℕ) → EndsWord (spaced z ++ r)
spaced_ends z r = refl

-- a position in front is its two numbers
pub place_first : (bs r : List ℕ) (p : Position) → IsPlace bs p r → IsSpaced bs p.x (spaced p.y ++ r)
place_first bs r p s = record {
  whole = s.whole ∙ append_assoc (spaced p.x) (spaced p.y) r;
  ends = spaced_ends p.y r;
  fits = fits_in_range p.x s.range.across;
}

pub place_second : (bs r : List ℕ) (p : Position) → IsPlace bs p r → IsSpaced (spaced p.y ++ r) p.y r
place_second bs r p s = record { whole = refl; ends = s.ends; fits = fits_in_range p.y s.range.upward }

-- ---- what is not the text of a number

held_fits : (z : ℤ) → FitsSigned w64 z → held z ≡ Ok z
held_fits (pos n) f = let h : n < 2 ^ 63 = f.sfits in let fits : nat_lt n (2 ^ 63) ≡ true = lt-ltb _ _ h in rw fits refl
held_fits (negsuc n) f =
    let h : n < 2 ^ 63 = f.sfits in
    let fits : nat_le (suc n) (2 ^ 63) ≡ true = search (arith, nat_tests) in
    rw fits refl

small_read : (z : ℤ) → FitsSigned w64 z → unsigned_abs z < 2 ^ 63 → whole_of (signed_decimal z) ≡ Ok z
small_read z f h = whole_is (signed_decimal z) z (whole_written z h) ∙ held_fits z f

-- the least number, whose distance from 0 is more than that of any other
least_read : whole_of (signed_decimal (negsuc 9223372036854775807)) ≡ Ok (negsuc 9223372036854775807)
unfolding value_from digits
least_read = refl

text_read : (z : ℤ) → FitsSigned w64 z → whole_of (signed_decimal z) ≡ Ok z
text_read (pos n) f = small_read (pos n) f f.sfits
text_read (negsuc n) f = by (nat_lt n 9223372036854775807) refl
  where
    by : (t : Bool) → nat_lt n 9223372036854775807 ≡ t → whole_of (signed_decimal (negsuc n)) ≡ Ok (negsuc n)
    by true e = let h : suc n < 2 ^ 63 = grind (arith, nat_tests) in small_read (negsuc n) f h
    by false e =
        let h : n < 2 ^ 63 = f.sfits in
        let least : n ≡ 9223372036854775807 = grind (arith, nat_tests) in
        rw least least_read

-- the text of a number is read as it
number_read : (z : ℤ) (word : List ℕ) → FitsSigned w64 z → word ≡ signed_decimal z → whole_of word ≡ Ok z
number_read z word f e = ap whole_of e ∙ text_read z f

pub not_whole : (z : ℤ) (word : List ℕ) (fault : NotWhole) → FitsSigned w64 z → word ≡ signed_decimal z → Err fault ≡ whole_of word → ⊥
not_whole z word fault f e r = let h = r ∙ number_read z word f e in cc

-- two texts that a test tells apart
pub told_apart : (xs ys : List ℕ) → bytes_eq xs ys ≡ false → xs ≡ ys → ⊥
told_apart xs ys k e = false≢true (sym k ∙ (bytes_eq-Decides xs ys).1 e)

pub not_written : (z y x : ℤ) (word : List ℕ) → FitsSigned w64 z → word ≡ signed_decimal z → Ok y ≡ whole_of word → x ≡ y → bytes_eq word (signed_decimal x) ≡ false → ⊥
not_written z y x word f e r w k =
    let both : Ok y ≡ Ok z = r ∙ number_read z word f e in
    let same : x ≡ z = cc in
    told_apart word (signed_decimal x) k (e ∙ ap signed_decimal (sym same))

-- ---- numbers of at most 128 bits

wide : (n : ℕ) → n < 2 ^ 128 → n < 10 ^ 64
wide n h = omega arith

pub wide_ascii : (n : ℕ) → n < 2 ^ 128 → IsAscii (decimal n)
wide_ascii n h = IsAscii-decimal_wide n (wide n h)

pub wide_utf8 : (n : ℕ) (bs : List ℕ) → n < 2 ^ 128 → bs ≡ decimal n → IsUtf8 bs
wide_utf8 n bs h e = IsUtf8-from_ascii bs (subst IsAscii (sym e) (wide_ascii n h))

wide_parsed : {E : Type 0} (n : ℕ) (bs : List ℕ) (r : Result ℕ E) → n < 2 ^ 128 → bs ≡ decimal n → ParsesUnsigned 128 10 bs r → r ≡ Ok n
wide_parsed n bs r h e p = parse-decimal_wide 128 n bs r h (wide n h) e p

pub wide_parses : (n : ℕ) (bs : List ℕ) → n < 2 ^ 128 → bs ≡ decimal n → ParsesUnsigned {E = ℕ} 128 10 bs (Err 0) → ⊥
wide_parses n bs h e p = let k = wide_parsed {E = ℕ} n bs (Err 0) h e p in cc

pub wide_not_written : (n m : ℕ) (word bs : List ℕ) → n < 2 ^ 128 → word ≡ decimal n → bs ≡ word → ParsesUnsigned {E = ℕ} 128 10 bs (Ok m) → bytes_eq word (decimal m) ≡ false → ⊥
wide_not_written n m word bs h e s p k =
    let is = wide_parsed {E = ℕ} n bs (Ok m) h (s ∙ e) p in
    let same : m ≡ n = cc in
    told_apart word (decimal m) k (e ∙ ap decimal (sym same))

-- two numbers of one text are one number
pub wide_once : (m n : ℕ) → m < 2 ^ 128 → n < 2 ^ 128 → decimal m ≡ decimal n → m ≡ n
wide_once m n h k e =
    sym (decimal_is_IsNumeral_wide m (wide m h)).1 ∙ ap (digits_value 10) e ∙ (decimal_is_IsNumeral_wide n (wide n k)).1

-- ---- what stands behind a word

pub take_length : (w r : List ℕ) → take (length w) (w ++ r) ≡ w
take_length [] r = refl
take_length (b ∷ w) r = ap (λ t. b ∷ t) (take_length w r)

pub behind_found : (w bs r : List ℕ) → bytes_eq (take (length w) bs) w ≡ true → r ≡ drop (length w) bs → bs ≡ w ++ r
behind_found w bs r e k = sym (take-append-drop (length w) bs) ∙ ap₂ (λ s t. s ++ t) ((bytes_eq-Decides (take (length w) bs) w).0 e) (sym k)

pub behind_none : (w bs r : List ℕ) → bytes_eq (take (length w) bs) w ≡ false → bs ≡ w ++ r → ⊥
behind_none w bs r e k = told_apart (take (length w) bs) w e (ap (take (length w)) k ∙ take_length w r)

pub same_behind : (w r t : List ℕ) → w ++ r ≡ w ++ t → r ≡ t
same_behind w r t e = sym (drop_length w r) ∙ ap (drop (length w)) e ∙ drop_length w t

-- ---- a number behind a space, found and not found

pub spaced_here : (bs tail word rest : List ℕ) (z x : ℤ) → x ≡ z → bs ≡ 32 ∷ tail → word ≡ take_while is_letter tail → rest ≡ rest_of tail
    → (word ≡ signed_decimal z) × FitsSigned w64 z → IsSpaced bs x rest
spaced_here bs tail word rest z x e b w r h = rw (e, b, r) (spaced_found tail z h.1 (sym w ∙ h.0))

pub spaced_word_is : (bs tail word rest : List ℕ) (z : ℤ) → bs ≡ 32 ∷ tail → word ≡ take_while is_letter tail → IsSpaced bs z rest → word ≡ signed_decimal z
spaced_word_is bs tail word rest z b w s = w ∙ spaced_word 32 tail rest z (subst (λ t. IsSpaced t z rest) b s)

-- no position stands in front where no second number does
pub no_place_behind : (bs behind r : List ℕ) (x : ℤ) (p : Position) → IsSpaced bs x behind → ((z : ℤ) (t : List ℕ) → ¬ IsSpaced behind z t) → IsPlace bs p r → ⊥
no_place_behind bs behind r x p s never k =
    let same = spaced_once bs behind (spaced p.y ++ r) x p.x s (place_first bs r p k) in
    never p.y r (subst (λ t. IsSpaced t p.y r) (sym same.1) (place_second bs r p k))

-- the first number are those of the position
pub place_numbers : (bs behind r t : List ℕ) (x y : ℤ) (p : Position) → IsSpaced bs x behind → IsSpaced behind y t → IsPlace bs p r → (x ≡ p.x) × (y ≡ p.y)
place_numbers bs behind r t x y p s k h =
    let first = spaced_once bs behind (spaced p.y ++ r) x p.x s (place_first bs r p h) in
    let second = spaced_once behind t r y p.y k (subst (λ u. IsSpaced u p.y r) (sym first.1) (place_second bs r p h)) in
    (first.0, second.0)

pub range_along : (a b x y : ℤ) (p : Position) → a ≡ x → b ≡ y → (x ≡ p.x) × (y ≡ p.y) → InRange p → InRange (position a b)
range_along a b x y p e f s h = record {
  across = subst (λ z. unsigned_abs z ≤ 1000000000000) (sym (e ∙ s.0)) h.across;
  upward = subst (λ z. unsigned_abs z ≤ 1000000000000) (sym (f ∙ s.1)) h.upward;
}

-- a position stands in front in one way alone
pub place_once : (bs r t : List ℕ) (p q : Position) → IsPlace bs p r → IsPlace bs q t → (p ≡ q) × (r ≡ t)
place_once bs r t p q s k =
    let first = spaced_once bs (spaced p.y ++ r) (spaced q.y ++ t) p.x q.x (place_first bs r p s) (place_first bs t q k) in
    let second = spaced_once (spaced p.y ++ r) r t p.y q.y (place_second bs r p s) (subst (λ u. IsSpaced u q.y t) (sym first.1) (place_second bs t q k)) in
    (ap₂ position first.0 second.0, second.1)
