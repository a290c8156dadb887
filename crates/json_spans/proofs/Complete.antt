-- What is in the grammar the machine accepts.
use Rattle.kit_words.proofs.Common.{◌≡◌, ℕ, suc, ◌+◌, ◌<◌, List, [], ◌∷◌, length, true, false, refl, arith, inl, inr}
use Rattle.kit_words.proofs.Common.{◌⊎◌, ◌==◌, nat_lt, Option, Some, lt-ltb, by_bool}
use Rattle.json_spans.specs.Common.{is_space, is_digit, is_nonzero, is_e, Frame, Within, Escape, Hex4, Hex3, Hex2, Hex1}
use Rattle.json_spans.specs.Common.{Tail1, Tail2, Tail3, AfterE0, AfterEd, AfterF0, AfterF4, Mode, Goes, Opens, Closes}
use Rattle.json_spans.specs.Common.{Fails, follows, word_step, string_step, closes_text, step, run, may_end, top_of}
use Rattle.json_spans.specs.Common.{rest_of, first_in, good, verdict, Space, no_space, space, Digits, no_digit, digit}
use Rattle.json_spans.specs.Common.{SomeDigits, digits, Signed, sign, unsigned, Exponent, no_exponent, exponent}
use Rattle.json_spans.specs.Common.{Fraction, no_fraction, fraction, Unsigned, zero_first, digit_first, Number, minus}
use Rattle.json_spans.specs.Common.{plain_number, Chars, quote, ascii, two, three, three_e0, three_ed, four, four_f0}
use Rattle.json_spans.specs.Common.{four_f4, escape, code, Value, null, yes, no, number, text, list, object, Items}
use Rattle.json_spans.specs.Common.{no_item, some_items, SomeItems, item, MoreItems, list_end, next_item, Members}
use Rattle.json_spans.specs.Common.{no_member, some_members, SomeMembers, name, Named, member, MoreMembers, object_end}
use Rattle.json_spans.specs.Common.{next_member, Json, json}
use Rattle.json_spans.specs.declared.machine.Frame.TheVariants as frame
use Rattle.json_spans.specs.declared.machine.Within.TheVariants.{Plain}
use Rattle.json_spans.specs.declared.machine.Word as words
use Rattle.json_spans.specs.declared.machine.Word.TheVariants as word
use Rattle.json_spans.specs.declared.machine.Mode.TheVariants as mode
use Rattle.json_spans.proofs.Completes.{room}
use Rattle.json_spans.proofs.Apart.{two_steps, three_steps, four_steps, two_plain, three_plain, four_plain, ascii_plain, ascii_steps, escape_plain, digit_ends, e_ends, point_ends, nonzero_begins, e_apart, sign_apart}

-- from there on all is good
abbrev Good : Mode → List Frame → List ℕ → Type 0
Good m fs xs = (place : ℕ) → run place m fs xs ≡ good

-- ---- one byte

goes_on : (m n : Mode) (fs : List Frame) (x : ℕ) (xs : List ℕ) → step m (top_of fs) x ≡ Goes n → Good n fs xs → Good m fs (x ∷ xs)
unfolding run
goes_on m n fs x xs e k place = rw e (k (place + 1))

closes_on : (m : Mode) (fs : List Frame) (x : ℕ) (xs : List ℕ) → step m (top_of fs) x ≡ Closes → Good mode.After (rest_of fs) xs → Good m fs (x ∷ xs)
unfolding run
closes_on m fs x xs e k place = rw e (k (place + 1))

opens_on : (m : Mode) (f : Frame) (fs : List Frame) (x : ℕ) (xs : List ℕ) → length fs < 100 → step m (top_of fs) x ≡ Opens f → Good (first_in f) (f ∷ fs) xs → Good m fs (x ∷ xs)
unfolding run
opens_on m f fs x xs lt e k place = let small : nat_lt (length fs) 100 ≡ true = lt-ltb _ _ lt in rw (e, small) (k (place + 1))

-- ---- spaces

spaces_on : {xs ys : List ℕ} → Space xs ys → (m : Mode) (fs : List Frame) → ((x : ℕ) → is_space x ≡ true → step m (top_of fs) x ≡ Goes m) → Good m fs ys → Good m fs xs
spaces_on no_space m fs w k = k
spaces_on (space {x = x} {xs = xs} e s) m fs w k = goes_on m m fs x xs (w x e) (spaces_on s m fs w k)

-- ---- numbers

-- a number may end in this mode
record Ending (m : Mode) : Type 0 where
  may : may_end m ≡ true
  ends : (top : Option Frame) (x : ℕ) → (step m top x ≡ follows top x) ⊎ (follows top x ≡ Fails)

bad_follows : (fs : List Frame) (x : ℕ) (xs : List ℕ) → follows (top_of fs) x ≡ Fails → Good mode.After fs (x ∷ xs) → ⊥
unfolding run
bad_follows fs x xs e k = let h = rw e at (k 0) in absurd cc

number_ends : (m : Mode) (fs : List Frame) (r : List ℕ) → Ending m → Good mode.After fs r → Good m fs r
unfolding run
number_ends m fs [] d k place = rw d.may (k place)
number_ends m fs (x ∷ xs) d k place =
    elim (d.ends (top_of fs) x) [
      | inl e ↦ rw e (k place)
      | inr e ↦ absurd (bad_follows fs x xs e k)
    ]

zero_ends : Ending mode.Zero
zero_ends = record {
  may = refl;
  ends = λ top x. by_bool (x == 46) (λ e. inr (point_ends top x e)) (λ e. by_bool (is_e x) (λ e. inr (e_ends top x e)) (λ f. inl (rw (e, f) refl)));
}

whole_ends : Ending mode.Whole
whole_ends = record {
  may = refl;
  ends = λ top x. by_bool (is_digit x) (λ e. inr (digit_ends top x e)) (λ d. by_bool (x == 46) (λ e. inr (point_ends top x e)) (λ e. by_bool (is_e x) (λ e. inr (e_ends top x e)) (λ f. inl (rw (d, e, f) refl))));
}

fraction_ends : Ending mode.Fraction
fraction_ends = record {
  may = refl;
  ends = λ top x. by_bool (is_digit x) (λ e. inr (digit_ends top x e)) (λ d. by_bool (is_e x) (λ e. inr (e_ends top x e)) (λ f. inl (rw (d, f) refl)));
}

power_ends : Ending mode.Power
power_ends = record {
  may = refl;
  ends = λ top x. by_bool (is_digit x) (λ e. inr (digit_ends top x e)) (λ d. inl (rw d refl));
}

digits_on : {xs ys : List ℕ} → Digits xs ys → (m : Mode) (fs : List Frame) → ((x : ℕ) → is_digit x ≡ true → step m (top_of fs) x ≡ Goes m) → Good m fs ys → Good m fs xs
digits_on no_digit m fs w k = k
digits_on (digit {x = x} {xs = xs} e s) m fs w k = goes_on m m fs x xs (w x e) (digits_on s m fs w k)

power_on : {xs r : List ℕ} → Digits xs r → (fs : List Frame) → Good mode.After fs r → Good mode.Power fs xs
power_on d fs k = digits_on d mode.Power fs (λ x e. rw e refl) (number_ends mode.Power fs _ power_ends k)

signed_on : {xs r : List ℕ} → Signed xs r → (fs : List Frame) → Good mode.After fs r → Good mode.Exponent fs xs
signed_on (sign {x = x} {xs = xs} e (digits {x = y} {xs = ys} f d)) fs k =
    goes_on mode.Exponent mode.Sign fs x xs (rw (sign_apart x e, e) refl) (goes_on mode.Sign mode.Power fs y ys (rw f refl) (power_on d fs k))
signed_on (unsigned (digits {x = y} {xs = ys} f d)) fs k = goes_on mode.Exponent mode.Power fs y ys (rw f refl) (power_on d fs k)

exponent_on : {xs r : List ℕ} → Exponent xs r → (m : Mode) (fs : List Frame) → Ending m → ((x : ℕ) → is_e x ≡ true → step m (top_of fs) x ≡ Goes mode.Exponent) → Good mode.After fs r → Good m fs xs
exponent_on (no_exponent {r = r}) m fs d w k = number_ends m fs r d k
exponent_on (exponent {x = x} {xs = xs} e s) m fs d w k = goes_on m mode.Exponent fs x xs (w x e) (signed_on s fs k)

some_fraction_on : {xs ys r : List ℕ} → SomeDigits xs ys → Exponent ys r → (fs : List Frame) → Good mode.After fs r → Good mode.Point fs xs
some_fraction_on (digits {x = x} {xs = xs} e d) s fs k =
    goes_on mode.Point mode.Fraction fs x xs (rw e refl)
    (digits_on d mode.Fraction fs (λ x e. rw e refl) (exponent_on s mode.Fraction fs fraction_ends (λ x e. rw ((e_apart x e).1, e) refl) k))

fraction_on : {xs r : List ℕ} → Fraction xs r → (m : Mode) (fs : List Frame) → Ending m → ((x : ℕ) → is_e x ≡ true → step m (top_of fs) x ≡ Goes mode.Exponent) → step m (top_of fs) 46 ≡ Goes mode.Point → Good mode.After fs r → Good m fs xs
fraction_on (no_fraction s) m fs d w p k = exponent_on s m fs d w k
fraction_on (fraction {xs = xs} d' s) m fs d w p k = goes_on m mode.Point fs 46 xs p (some_fraction_on d' s fs k)

unsigned_on : {xs r : List ℕ} → Unsigned xs r → (m : Mode) (fs : List Frame) → step m (top_of fs) 48 ≡ Goes mode.Zero → ((x : ℕ) → is_nonzero x ≡ true → step m (top_of fs) x ≡ Goes mode.Whole) → Good mode.After fs r → Good m fs xs
unsigned_on (zero_first {xs = xs} s) m fs z w k =
    goes_on m mode.Zero fs 48 xs z (fraction_on s mode.Zero fs zero_ends (λ x e. rw ((e_apart x e).0, e) refl) refl k)
unsigned_on (digit_first {x = x} {xs = xs} e d s) m fs z w k =
    goes_on m mode.Whole fs x xs (w x e)
    (digits_on d mode.Whole fs (λ x e. rw e refl) (fraction_on s mode.Whole fs whole_ends (λ x e. rw ((e_apart x e).1, (e_apart x e).0, e) refl) refl k))

number_on : {xs r : List ℕ} → Number xs r → (fs : List Frame) → Good mode.After fs r → Good mode.Value fs xs
number_on (minus {xs = xs} u) fs k = goes_on mode.Value mode.Minus fs 45 xs refl (unsigned_on u mode.Minus fs refl (λ x e. rw ((nonzero_begins x e).2, e) refl) k)
number_on (plain_number u) fs k = unsigned_on u mode.Value fs refl (λ x e. rw ((nonzero_begins x e).0, (nonzero_begins x e).1) refl) k

-- ---- strings

-- the modes of a string
record InText (t : Within → Mode) (after : Mode) (fs : List Frame) : Type 0 where
  closing : step (t Plain) (top_of fs) 34 ≡ Goes after
  inner : (w v : Within) (x : ℕ) → closes_text w x ≡ false → string_step w x ≡ Some v → step (t w) (top_of fs) x ≡ Goes (t v)

value_text : (fs : List Frame) → InText mode.Text mode.After fs
value_text fs = record { closing = refl; inner = λ w v x e s. rw (e, s) refl }

member_text : (fs : List Frame) → InText mode.NameText mode.Colon (frame.Object ∷ fs)
member_text fs = record { closing = refl; inner = λ w v x e s. rw (e, s) refl }

chars_on : {xs r : List ℕ} → Chars xs r → (t : Within → Mode) (after : Mode) (fs : List Frame) → InText t after fs → Good after fs r → Good (t Plain) fs xs
chars_on (quote {r = r}) t after fs i k = goes_on (t Plain) after fs 34 r i.closing k
chars_on (ascii {a = a} {xs = xs} e c) t after fs i k =
    goes_on (t Plain) (t Plain) fs a xs (i.inner Plain Plain a (ascii_plain a e).0 (ascii_steps a e)) (chars_on c t after fs i k)
chars_on (two {a = a} {b = b} {xs = xs} e f c) t after fs i k =
    goes_on (t Plain) (t Tail1) fs a (b ∷ xs) (i.inner Plain Tail1 a (two_plain a e).0 (two_steps a e))
    (goes_on (t Tail1) (t Plain) fs b xs (i.inner Tail1 Plain b refl (rw f refl)) (chars_on c t after fs i k))
chars_on (three {a = a} {b = b} {c = c} {xs = xs} e f g h) t after fs i k =
    goes_on (t Plain) (t Tail2) fs a (b ∷ c ∷ xs) (i.inner Plain Tail2 a (three_plain a e).0 (three_steps a e))
    (goes_on (t Tail2) (t Tail1) fs b (c ∷ xs) (i.inner Tail2 Tail1 b refl (rw f refl))
    (goes_on (t Tail1) (t Plain) fs c xs (i.inner Tail1 Plain c refl (rw g refl)) (chars_on h t after fs i k)))
chars_on (three_e0 {b = b} {c = c} {xs = xs} f g h) t after fs i k =
    goes_on (t Plain) (t AfterE0) fs 224 (b ∷ c ∷ xs) (i.inner Plain AfterE0 224 refl refl)
    (goes_on (t AfterE0) (t Tail1) fs b (c ∷ xs) (i.inner AfterE0 Tail1 b refl (rw f refl))
    (goes_on (t Tail1) (t Plain) fs c xs (i.inner Tail1 Plain c refl (rw g refl)) (chars_on h t after fs i k)))
chars_on (three_ed {b = b} {c = c} {xs = xs} f g h) t after fs i k =
    goes_on (t Plain) (t AfterEd) fs 237 (b ∷ c ∷ xs) (i.inner Plain AfterEd 237 refl refl)
    (goes_on (t AfterEd) (t Tail1) fs b (c ∷ xs) (i.inner AfterEd Tail1 b refl (rw f refl))
    (goes_on (t Tail1) (t Plain) fs c xs (i.inner Tail1 Plain c refl (rw g refl)) (chars_on h t after fs i k)))
chars_on (four {a = a} {b = b} {c = c} {d = d} {xs = xs} e f g h j) t after fs i k =
    goes_on (t Plain) (t Tail3) fs a (b ∷ c ∷ d ∷ xs) (i.inner Plain Tail3 a (four_plain a e).0 (four_steps a e))
    (goes_on (t Tail3) (t Tail2) fs b (c ∷ d ∷ xs) (i.inner Tail3 Tail2 b refl (rw f refl))
    (goes_on (t Tail2) (t Tail1) fs c (d ∷ xs) (i.inner Tail2 Tail1 c refl (rw g refl))
    (goes_on (t Tail1) (t Plain) fs d xs (i.inner Tail1 Plain d refl (rw h refl)) (chars_on j t after fs i k))))
chars_on (four_f0 {b = b} {c = c} {d = d} {xs = xs} f g h j) t after fs i k =
    goes_on (t Plain) (t AfterF0) fs 240 (b ∷ c ∷ d ∷ xs) (i.inner Plain AfterF0 240 refl refl)
    (goes_on (t AfterF0) (t Tail2) fs b (c ∷ d ∷ xs) (i.inner AfterF0 Tail2 b refl (rw f refl))
    (goes_on (t Tail2) (t Tail1) fs c (d ∷ xs) (i.inner Tail2 Tail1 c refl (rw g refl))
    (goes_on (t Tail1) (t Plain) fs d xs (i.inner Tail1 Plain d refl (rw h refl)) (chars_on j t after fs i k))))
chars_on (four_f4 {b = b} {c = c} {d = d} {xs = xs} f g h j) t after fs i k =
    goes_on (t Plain) (t AfterF4) fs 244 (b ∷ c ∷ d ∷ xs) (i.inner Plain AfterF4 244 refl refl)
    (goes_on (t AfterF4) (t Tail2) fs b (c ∷ d ∷ xs) (i.inner AfterF4 Tail2 b refl (rw f refl))
    (goes_on (t Tail2) (t Tail1) fs c (d ∷ xs) (i.inner Tail2 Tail1 c refl (rw g refl))
    (goes_on (t Tail1) (t Plain) fs d xs (i.inner Tail1 Plain d refl (rw h refl)) (chars_on j t after fs i k))))
chars_on (escape {x = x} {xs = xs} e c) t after fs i k =
    goes_on (t Plain) (t Escape) fs 92 (x ∷ xs) (i.inner Plain Escape 92 refl refl)
    (goes_on (t Escape) (t Plain) fs x xs (i.inner Escape Plain x refl (rw (escape_plain x e, e) refl)) (chars_on c t after fs i k))
chars_on (code {a = a} {b = b} {c = c} {d = d} {xs = xs} e f g h j) t after fs i k =
    goes_on (t Plain) (t Escape) fs 92 (117 ∷ a ∷ b ∷ c ∷ d ∷ xs) (i.inner Plain Escape 92 refl refl)
    (goes_on (t Escape) (t Hex4) fs 117 (a ∷ b ∷ c ∷ d ∷ xs) (i.inner Escape Hex4 117 refl refl)
    (goes_on (t Hex4) (t Hex3) fs a (b ∷ c ∷ d ∷ xs) (i.inner Hex4 Hex3 a refl (rw e refl))
    (goes_on (t Hex3) (t Hex2) fs b (c ∷ d ∷ xs) (i.inner Hex3 Hex2 b refl (rw f refl))
    (goes_on (t Hex2) (t Hex1) fs c (d ∷ xs) (i.inner Hex2 Hex1 c refl (rw g refl))
    (goes_on (t Hex1) (t Plain) fs d xs (i.inner Hex1 Plain d refl (rw h refl)) (chars_on j t after fs i k))))))

-- ---- words

word_on : (w v : words.Word) (fs : List Frame) (x : ℕ) (xs : List ℕ) → word_step w x ≡ Some (mode.Word v) → Good (mode.Word v) fs xs → Good (mode.Word w) fs (x ∷ xs)
word_on w v fs x xs e k = goes_on (mode.Word w) (mode.Word v) fs x xs (rw e refl) k

ue_on : (fs : List Frame) (r : List ℕ) → Good mode.After fs r → Good (mode.Word word.E) fs (101 ∷ r)
ue_on fs r k = goes_on (mode.Word word.E) mode.After fs 101 r refl k

-- ---- values

room_below : (n : ℕ) (f : Frame) (fs : List Frame) → suc n ≡ room fs → (length fs < 100) × (n ≡ room (f ∷ fs))
room_below n f fs e = (omega arith, omega arith)

waits : (fs : List Frame) (x : ℕ) → is_space x ≡ true → step mode.Value (top_of fs) x ≡ Goes mode.Value
waits fs x e = rw e refl

-- a first item that is a value is read as a value
record Starts (ys : List ℕ) : Type 0 where
  head : ℕ
  tail : List ℕ
  whole : ys ≡ head ∷ tail
  no_space : is_space head ≡ false
  no_end : (head == 93) ≡ false

number_starts : {xs r : List ℕ} → Number xs r → Starts xs
number_starts (minus {xs = xs} u) = record { head = 45; tail = xs; whole = refl; no_space = refl; no_end = refl }
number_starts (plain_number (zero_first {xs = xs} u)) = record { head = 48; tail = xs; whole = refl; no_space = refl; no_end = refl }
number_starts (plain_number (digit_first {x = x} {xs = xs} e d s)) = record { head = x; tail = xs; whole = refl; no_space = (nonzero_begins x e).0; no_end = (nonzero_begins x e).3 }

value_starts : {n : ℕ} {xs r : List ℕ} → Value n xs r → Starts xs
value_starts (null {r = r}) = record { head = 110; tail = 117 ∷ 108 ∷ 108 ∷ r; whole = refl; no_space = refl; no_end = refl }
value_starts (yes {r = r}) = record { head = 116; tail = 114 ∷ 117 ∷ 101 ∷ r; whole = refl; no_space = refl; no_end = refl }
value_starts (no {r = r}) = record { head = 102; tail = 97 ∷ 108 ∷ 115 ∷ 101 ∷ r; whole = refl; no_space = refl; no_end = refl }
value_starts (number d) = number_starts d
value_starts (text {xs = xs} c) = record { head = 34; tail = xs; whole = refl; no_space = refl; no_end = refl }
value_starts (list {xs = xs} s i) = record { head = 91; tail = xs; whole = refl; no_space = refl; no_end = refl }
value_starts (object {xs = xs} s i) = record { head = 123; tail = xs; whole = refl; no_space = refl; no_end = refl }

items_start : {n : ℕ} {xs r : List ℕ} → SomeItems n xs r → Starts xs
items_start (item v s m) = value_starts v

first_on : (ys : List ℕ) (fs : List Frame) → Starts ys → Good mode.Value (frame.List ∷ fs) ys → Good mode.FirstItem (frame.List ∷ fs) ys
unfolding run
first_on ys fs s k place = rw (s.whole, s.no_space, s.no_end) (rw (s.whole, s.no_space) at (k place))

mutual
  value_on : {n : ℕ} {xs r : List ℕ} → Value n xs r → (fs : List Frame) → n ≡ room fs → Good mode.After fs r → Good mode.Value fs xs
  value_on (null {r = r}) fs e k =
      goes_on mode.Value (mode.Word word.Ull) fs 110 (117 ∷ 108 ∷ 108 ∷ r) refl
      (word_on word.Ull word.Ll fs 117 (108 ∷ 108 ∷ r) refl (word_on word.Ll word.L fs 108 (108 ∷ r) refl (goes_on (mode.Word word.L) mode.After fs 108 r refl k)))
  value_on (yes {r = r}) fs e k =
      goes_on mode.Value (mode.Word word.Rue) fs 116 (114 ∷ 117 ∷ 101 ∷ r) refl (word_on word.Rue word.Ue fs 114 (117 ∷ 101 ∷ r) refl (word_on word.Ue word.E fs 117 (101 ∷ r) refl (ue_on fs r k)))
  value_on (no {r = r}) fs e k =
      goes_on mode.Value (mode.Word word.Alse) fs 102 (97 ∷ 108 ∷ 115 ∷ 101 ∷ r) refl
      (word_on word.Alse word.Lse fs 97 (108 ∷ 115 ∷ 101 ∷ r) refl (word_on word.Lse word.Se fs 108 (115 ∷ 101 ∷ r) refl (word_on word.Se word.E fs 115 (101 ∷ r) refl (ue_on fs r k))))
  value_on (number d) fs e k = number_on d fs k
  value_on (text {xs = xs} c) fs e k = goes_on mode.Value (mode.Text Plain) fs 34 xs refl (chars_on c mode.Text mode.After fs (value_text fs) k)
  value_on (list {n = n} {xs = xs} s i) fs e k =
      let b = room_below n frame.List fs e in
      opens_on mode.Value frame.List fs 91 xs b.0 refl (spaces_on s mode.FirstItem (frame.List ∷ fs) (λ x e. rw e refl) (items_on i fs b.1 k))
  value_on (object {n = n} {xs = xs} s i) fs e k =
      let b = room_below n frame.Object fs e in
      opens_on mode.Value frame.Object fs 123 xs b.0 refl (spaces_on s mode.FirstName (frame.Object ∷ fs) (λ x e. rw e refl) (members_on i fs b.1 k))

  items_on : {n : ℕ} {xs r : List ℕ} → Items n xs r → (fs : List Frame) → n ≡ room (frame.List ∷ fs) → Good mode.After fs r → Good mode.FirstItem (frame.List ∷ fs) xs
  items_on (no_item {r = r}) fs e k = closes_on mode.FirstItem (frame.List ∷ fs) 93 r refl k
  items_on (some_items {xs = xs} i) fs e k = first_on xs fs (items_start i) (some_items_on i fs e k)

  some_items_on : {n : ℕ} {xs r : List ℕ} → SomeItems n xs r → (fs : List Frame) → n ≡ room (frame.List ∷ fs) → Good mode.After fs r → Good mode.Value (frame.List ∷ fs) xs
  some_items_on (item v s m) fs e k = value_on v (frame.List ∷ fs) e (spaces_on s mode.After (frame.List ∷ fs) (λ x e. rw e refl) (more_items_on m fs e k))

  more_items_on : {n : ℕ} {xs r : List ℕ} → MoreItems n xs r → (fs : List Frame) → n ≡ room (frame.List ∷ fs) → Good mode.After fs r → Good mode.After (frame.List ∷ fs) xs
  more_items_on (list_end {r = r}) fs e k = closes_on mode.After (frame.List ∷ fs) 93 r refl k
  more_items_on (next_item {xs = xs} s i) fs e k =
      goes_on mode.After mode.Value (frame.List ∷ fs) 44 xs refl (spaces_on s mode.Value (frame.List ∷ fs) (λ x e. rw e refl) (some_items_on i fs e k))

  members_on : {n : ℕ} {xs r : List ℕ} → Members n xs r → (fs : List Frame) → n ≡ room (frame.Object ∷ fs) → Good mode.After fs r → Good mode.FirstName (frame.Object ∷ fs) xs
  members_on (no_member {r = r}) fs e k = closes_on mode.FirstName (frame.Object ∷ fs) 125 r refl k
  members_on (some_members {xs = xs} (name {xs = ys} c m)) fs e k =
      goes_on mode.FirstName (mode.NameText Plain) (frame.Object ∷ fs) 34 ys refl (chars_on c mode.NameText mode.Colon (frame.Object ∷ fs) (member_text fs) (named_on m fs e k))

  some_members_on : {n : ℕ} {xs r : List ℕ} → SomeMembers n xs r → (fs : List Frame) → n ≡ room (frame.Object ∷ fs) → Good mode.After fs r → Good mode.Name (frame.Object ∷ fs) xs
  some_members_on (name {xs = xs} c m) fs e k =
      goes_on mode.Name (mode.NameText Plain) (frame.Object ∷ fs) 34 xs refl (chars_on c mode.NameText mode.Colon (frame.Object ∷ fs) (member_text fs) (named_on m fs e k))

  named_on : {n : ℕ} {xs r : List ℕ} → Named n xs r → (fs : List Frame) → n ≡ room (frame.Object ∷ fs) → Good mode.After fs r → Good mode.Colon (frame.Object ∷ fs) xs
  named_on (member {ys = ys} s t v u m) fs e k =
      spaces_on s mode.Colon (frame.Object ∷ fs) (λ x e. rw e refl)
      (goes_on mode.Colon mode.Value (frame.Object ∷ fs) 58 ys refl
      (spaces_on t mode.Value (frame.Object ∷ fs) (λ x e. rw e refl)
      (value_on v (frame.Object ∷ fs) e (spaces_on u mode.After (frame.Object ∷ fs) (λ x e. rw e refl) (more_members_on m fs e k)))))

  more_members_on : {n : ℕ} {xs r : List ℕ} → MoreMembers n xs r → (fs : List Frame) → n ≡ room (frame.Object ∷ fs) → Good mode.After fs r → Good mode.After (frame.Object ∷ fs) xs
  more_members_on (object_end {r = r}) fs e k = closes_on mode.After (frame.Object ∷ fs) 125 r refl k
  more_members_on (next_member {xs = xs} s i) fs e k =
      goes_on mode.After mode.Name (frame.Object ∷ fs) 44 xs refl (spaces_on s mode.Name (frame.Object ∷ fs) (λ x e. rw e refl) (some_members_on i fs e k))

at_end_good : Good mode.After [] []
unfolding run
at_end_good place = refl

pub json_verdict : (xs : List ℕ) → Json 100 xs → verdict xs ≡ good
json_verdict xs (json s v t) = spaces_on s mode.Value [] (waits []) (value_on v [] refl (spaces_on t mode.After [] (λ x e. rw e refl) at_end_good)) 0
