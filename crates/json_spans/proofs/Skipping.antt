-- A part ends where the grammar's value ends.
use Rattle.kit_words.proofs.Common.{◌≡◌, ℕ, ◌+◌, ◌-◌, ◌≤◌, List, [], ◌∷◌, true, false, refl, ◌∙◌, arith, ◌==◌, ◌||◌}
use Rattle.kit_words.proofs.Common.{Option, Some, None, nat_tests}
use Rattle.json_spans.specs.Common.{is_space, is_digit, is_hex, is_tail, is_nonzero, is_e, is_sign, is_ascii, is_three}
use Rattle.json_spans.specs.Common.{Skip, Plain, Quoted, Escaped, skip_step, opens, closes, Space, no_space, space}
use Rattle.json_spans.specs.Common.{Digits, no_digit, digit, SomeDigits, digits, sign, unsigned, Exponent, no_exponent}
use Rattle.json_spans.specs.Common.{exponent, Fraction, no_fraction, fraction, Unsigned, zero_first, digit_first}
use Rattle.json_spans.specs.Common.{Number, minus, plain_number, Chars, quote, ascii, two, three, three_e0, three_ed}
use Rattle.json_spans.specs.Common.{four, four_f0, four_f4, escape, code, Value, null, yes, no, number, text, list}
use Rattle.json_spans.specs.Common.{object, Items, no_item, some_items, SomeItems, item, MoreItems, list_end, next_item}
use Rattle.json_spans.specs.Common.{Members, no_member, some_members, SomeMembers, name, Named, member, MoreMembers}
use Rattle.json_spans.specs.Common.{object_end, next_member}

-- what is left where the first part ends
abbrev pub rest_after : Option (Skip × ℕ) → List ℕ → (Skip → ℕ → List ℕ) → List ℕ
rest_after None here go = here
rest_after (Some p) here go = go p.0 p.1

unfoldable pub part_rest : ℕ → Skip → ℕ → List ℕ → List ℕ
part_rest sep s level [] = []
part_rest sep s level (x ∷ xs) = rest_after (skip_step sep s level x) (x ∷ xs) (λ s' level'. part_rest sep s' level' xs)

abbrev pub Alike : ℕ → Skip → List ℕ → List ℕ → Type 0
Alike sep s xs ys = (l : ℕ) → part_rest sep s l xs ≡ part_rest sep Plain l ys

abbrev Passing : ℕ → Type 0
Passing x = (l : ℕ) → skip_step 44 Plain l x ≡ Some (Plain, l)

abbrev Staying : ℕ → Type 0
Staying x = (sep l : ℕ) → skip_step sep Quoted l x ≡ Some (Quoted, l)

pass : (sep : ℕ) (s t : Skip) (x : ℕ) (xs ys : List ℕ) → ((l : ℕ) → skip_step sep s l x ≡ Some (t, l)) → Alike sep t xs ys → Alike sep s (x ∷ xs) ys
unfolding part_rest
pass sep s t x xs ys p k l = rw (p l) (k l)

-- a byte that is no space
abbrev pub NoSpace : ℕ → Type 0
NoSpace sep = (x : ℕ) → is_space x ≡ true → (l : ℕ) → skip_step sep Plain l x ≡ Some (Plain, l)

pub comma_no_space : NoSpace 44
comma_no_space x e l = grind (arith, nat_tests)

pub colon_no_space : NoSpace 58
colon_no_space x e l = grind (arith, nat_tests)

digit_passes : (x : ℕ) → is_digit x ≡ true → Passing x
digit_passes x e l = grind (arith, nat_tests)

nonzero_passes : (x : ℕ) → is_nonzero x ≡ true → Passing x
nonzero_passes x e l = grind (arith, nat_tests)

e_passes : (x : ℕ) → is_e x ≡ true → Passing x
e_passes x e l = grind (arith, nat_tests)

sign_passes : (x : ℕ) → is_sign x ≡ true → Passing x
sign_passes x e l = grind (arith, nat_tests)

letter_passes : (x : ℕ) → (x == 46) || (x == 45) || ((x == 48) || ((x == 110) || ((x == 117) || ((x == 108) || ((x == 116) || ((x == 114) || ((x == 101) || ((x == 102) || ((x == 97) || (x == 115)))))))))) ≡ true → Passing x
letter_passes x e l = grind (arith, nat_tests)

ascii_stays : (x : ℕ) → is_ascii x ≡ true → Staying x
ascii_stays x e sep l = grind (arith, nat_tests)

-- a byte of a longer character
high_stays : (x : ℕ) → 128 ≤ x → Staying x
high_stays x e sep l = grind (arith, nat_tests)

hex_stays : (x : ℕ) → is_hex x ≡ true → Staying x
hex_stays x e sep l = grind (arith, nat_tests)

pub spaces_skip : (sep : ℕ) {xs ys : List ℕ} → NoSpace sep → Space xs ys → (zs : List ℕ) → Alike sep Plain ys zs → Alike sep Plain xs zs
spaces_skip sep n no_space zs k = k
spaces_skip sep n (space {x = x} {xs = xs} e s) zs k = pass sep Plain Plain x xs zs (n x e) (spaces_skip sep n s zs k)

spaces_pass : {xs ys : List ℕ} → Space xs ys → (zs : List ℕ) → Alike 44 Plain ys zs → Alike 44 Plain xs zs
spaces_pass s zs k = spaces_skip 44 comma_no_space s zs k

-- ---- numbers

digits_pass : {xs ys : List ℕ} → Digits xs ys → (zs : List ℕ) → Alike 44 Plain ys zs → Alike 44 Plain xs zs
digits_pass no_digit zs k = k
digits_pass (digit {x = x} {xs = xs} e s) zs k = pass 44 Plain Plain x xs zs (digit_passes x e) (digits_pass s zs k)

some_digits_pass : {xs ys : List ℕ} → SomeDigits xs ys → (zs : List ℕ) → Alike 44 Plain ys zs → Alike 44 Plain xs zs
some_digits_pass (digits {x = x} {xs = xs} e s) zs k = pass 44 Plain Plain x xs zs (digit_passes x e) (digits_pass s zs k)

exponent_pass : {xs ys : List ℕ} → Exponent xs ys → (zs : List ℕ) → Alike 44 Plain ys zs → Alike 44 Plain xs zs
exponent_pass no_exponent zs k = k
exponent_pass (exponent {x = x} {xs = xs} e (sign {x = y} {xs = ys} f d)) zs k = pass 44 Plain Plain x xs zs (e_passes x e) (pass 44 Plain Plain y ys zs (sign_passes y f) (some_digits_pass d zs k))
exponent_pass (exponent {x = x} {xs = xs} e (unsigned d)) zs k = pass 44 Plain Plain x xs zs (e_passes x e) (some_digits_pass d zs k)

fraction_pass : {xs ys : List ℕ} → Fraction xs ys → (zs : List ℕ) → Alike 44 Plain ys zs → Alike 44 Plain xs zs
fraction_pass (no_fraction e) zs k = exponent_pass e zs k
fraction_pass (fraction {xs = xs} d e) zs k = pass 44 Plain Plain 46 xs zs (letter_passes 46 refl) (some_digits_pass d zs (exponent_pass e zs k))

unsigned_pass : {xs ys : List ℕ} → Unsigned xs ys → (zs : List ℕ) → Alike 44 Plain ys zs → Alike 44 Plain xs zs
unsigned_pass (zero_first {xs = xs} f) zs k = pass 44 Plain Plain 48 xs zs (letter_passes 48 refl) (fraction_pass f zs k)
unsigned_pass (digit_first {x = x} {xs = xs} e d f) zs k = pass 44 Plain Plain x xs zs (nonzero_passes x e) (digits_pass d zs (fraction_pass f zs k))

number_pass : {xs ys : List ℕ} → Number xs ys → (zs : List ℕ) → Alike 44 Plain ys zs → Alike 44 Plain xs zs
number_pass (minus {xs = xs} u) zs k = pass 44 Plain Plain 45 xs zs (letter_passes 45 refl) (unsigned_pass u zs k)
number_pass (plain_number u) zs k = unsigned_pass u zs k

-- ---- strings

stay : (sep : ℕ) (x : ℕ) (xs zs : List ℕ) → Staying x → Alike sep Quoted xs zs → Alike sep Quoted (x ∷ xs) zs
stay sep x xs zs e k = pass sep Quoted Quoted x xs zs (e sep) k

tail_stays : (x : ℕ) → is_tail x ≡ true → Staying x
tail_stays x e = high_stays x (grind (arith, nat_tests))

three_high : (a : ℕ) → is_three a ≡ true → 128 ≤ a
three_high a e = grind (arith, nat_tests)

chars_pass : (sep : ℕ) {xs ys : List ℕ} → Chars xs ys → (zs : List ℕ) → Alike sep Plain ys zs → Alike sep Quoted xs zs
chars_pass sep (quote {r = r}) zs k = pass sep Quoted Plain 34 r zs (λ l. refl) k
chars_pass sep (ascii {a = a} {xs = xs} e c) zs k = stay sep a xs zs (ascii_stays a e) (chars_pass sep c zs k)
chars_pass sep (two {a = a} {b = b} {xs = xs} e f c) zs k =
    stay sep a (b ∷ xs) zs (high_stays a (grind (arith, nat_tests))) (stay sep b xs zs (tail_stays b f) (chars_pass sep c zs k))
chars_pass sep (three {a = a} {b = b} {c = c} {xs = xs} e f g h) zs k =
    stay sep a (b ∷ c ∷ xs) zs (high_stays a (three_high a e)) (stay sep b (c ∷ xs) zs (tail_stays b f) (stay sep c xs zs (tail_stays c g) (chars_pass sep h zs k)))
chars_pass sep (three_e0 {b = b} {c = c} {xs = xs} f g h) zs k =
    stay sep 224 (b ∷ c ∷ xs) zs (λ sep l. refl) (stay sep b (c ∷ xs) zs (high_stays b (grind (arith, nat_tests))) (stay sep c xs zs (tail_stays c g) (chars_pass sep h zs k)))
chars_pass sep (three_ed {b = b} {c = c} {xs = xs} f g h) zs k =
    stay sep 237 (b ∷ c ∷ xs) zs (λ sep l. refl) (stay sep b (c ∷ xs) zs (high_stays b (grind (arith, nat_tests))) (stay sep c xs zs (tail_stays c g) (chars_pass sep h zs k)))
chars_pass sep (four {a = a} {b = b} {c = c} {d = d} {xs = xs} e f g h j) zs k =
    stay sep a (b ∷ c ∷ d ∷ xs) zs (high_stays a (grind (arith, nat_tests)))
    (stay sep b (c ∷ d ∷ xs) zs (tail_stays b f) (stay sep c (d ∷ xs) zs (tail_stays c g) (stay sep d xs zs (tail_stays d h) (chars_pass sep j zs k))))
chars_pass sep (four_f0 {b = b} {c = c} {d = d} {xs = xs} f g h j) zs k =
    stay sep 240 (b ∷ c ∷ d ∷ xs) zs (λ sep l. refl) (stay sep b (c ∷ d ∷ xs) zs (high_stays b (grind (arith, nat_tests))) (stay sep c (d ∷ xs) zs (tail_stays c g) (stay sep d xs zs (tail_stays d h) (chars_pass sep j zs k))))
chars_pass sep (four_f4 {b = b} {c = c} {d = d} {xs = xs} f g h j) zs k =
    stay sep 244 (b ∷ c ∷ d ∷ xs) zs (λ sep l. refl) (stay sep b (c ∷ d ∷ xs) zs (high_stays b (grind (arith, nat_tests))) (stay sep c (d ∷ xs) zs (tail_stays c g) (stay sep d xs zs (tail_stays d h) (chars_pass sep j zs k))))
chars_pass sep (escape {x = x} {xs = xs} e c) zs k = pass sep Quoted Escaped 92 (x ∷ xs) zs (λ l. refl) (pass sep Escaped Quoted x xs zs (λ l. refl) (chars_pass sep c zs k))
chars_pass sep (code {a = a} {b = b} {c = c} {d = d} {xs = xs} e f g h j) zs k =
    pass sep Quoted Escaped 92 (117 ∷ a ∷ b ∷ c ∷ d ∷ xs) zs (λ l. refl)
    (pass sep Escaped Quoted 117 (a ∷ b ∷ c ∷ d ∷ xs) zs (λ l. refl)
    (stay sep a (b ∷ c ∷ d ∷ xs) zs (hex_stays a e) (stay sep b (c ∷ d ∷ xs) zs (hex_stays b f) (stay sep c (d ∷ xs) zs (hex_stays c g) (stay sep d xs zs (hex_stays d h) (chars_pass sep j zs k))))))

-- ---- values

word_pass : (x : ℕ) (xs zs : List ℕ) → Passing x → Alike 44 Plain xs zs → Alike 44 Plain (x ∷ xs) zs
word_pass x xs zs e k = pass 44 Plain Plain x xs zs e k

closes_level : (x : ℕ) (xs zs : List ℕ) (l : ℕ) → closes x ≡ true → (x == 34) ≡ false → opens x ≡ false → part_rest 44 Plain l xs ≡ part_rest 44 Plain l zs → part_rest 44 Plain (l + 1) (x ∷ xs) ≡ part_rest 44 Plain l zs
unfolding part_rest
closes_level x xs zs l c q o k =
    let up : (l + 1 == 0) ≡ false = grind (arith, nat_tests) in
    let down : l + 1 - 1 ≡ l = omega arith in
    rw (q, o, up, c, down) k

comma_level : (xs zs : List ℕ) (l : ℕ) → part_rest 44 Plain (l + 1) xs ≡ part_rest 44 Plain l zs → part_rest 44 Plain (l + 1) (44 ∷ xs) ≡ part_rest 44 Plain l zs
unfolding part_rest
comma_level xs zs l k =
    let up : (l + 1 == 0) ≡ false = grind (arith, nat_tests) in
    rw up k

spaces_inside : {xs ys : List ℕ} → Space xs ys → (zs : List ℕ) (l : ℕ) → part_rest 44 Plain (l + 1) ys ≡ part_rest 44 Plain l zs → part_rest 44 Plain (l + 1) xs ≡ part_rest 44 Plain l zs
spaces_inside {ys = ys} s zs l k = spaces_pass s ys (λ m. refl) (l + 1) ∙ k

opens_level : (x : ℕ) (xs zs : List ℕ) (l : ℕ) → opens x ≡ true → part_rest 44 Plain (l + 1) xs ≡ part_rest 44 Plain l zs → part_rest 44 Plain l (x ∷ xs) ≡ part_rest 44 Plain l zs
unfolding part_rest
opens_level x xs zs l o k =
    let q : (x == 34) ≡ false = grind (arith, nat_tests) in
    rw (q, o) k

colon_byte : (x : ℕ) → (x == 58) ≡ true → Passing x
colon_byte x e l = grind (arith, nat_tests)

pub colon_passes : (xs : List ℕ) (l : ℕ) → part_rest 44 Plain l (58 ∷ xs) ≡ part_rest 44 Plain l xs
colon_passes xs l = pass 44 Plain Plain 58 xs xs (colon_byte 58 refl) (λ m. refl) l

mutual
  pub value_pass : {n : ℕ} {xs r : List ℕ} → Value n xs r → (l : ℕ) → part_rest 44 Plain l xs ≡ part_rest 44 Plain l r
  value_pass (null {r = r}) l = word_pass 110 (117 ∷ 108 ∷ 108 ∷ r) r (letter_passes 110 refl) (word_pass 117 (108 ∷ 108 ∷ r) r (letter_passes 117 refl) (word_pass 108 (108 ∷ r) r (letter_passes 108 refl) (word_pass 108 r r (letter_passes 108 refl) (λ m. refl)))) l
  value_pass (yes {r = r}) l = word_pass 116 (114 ∷ 117 ∷ 101 ∷ r) r (letter_passes 116 refl) (word_pass 114 (117 ∷ 101 ∷ r) r (letter_passes 114 refl) (word_pass 117 (101 ∷ r) r (letter_passes 117 refl) (word_pass 101 r r (letter_passes 101 refl) (λ m. refl)))) l
  value_pass (no {r = r}) l =
      word_pass 102 (97 ∷ 108 ∷ 115 ∷ 101 ∷ r) r (letter_passes 102 refl)
      (word_pass 97 (108 ∷ 115 ∷ 101 ∷ r) r (letter_passes 97 refl) (word_pass 108 (115 ∷ 101 ∷ r) r (letter_passes 108 refl) (word_pass 115 (101 ∷ r) r (letter_passes 115 refl) (word_pass 101 r r (letter_passes 101 refl) (λ m. refl))))) l
  value_pass (number {r = r} d) l = number_pass d r (λ m. refl) l
  value_pass (text {xs = xs} {r = r} c) l = pass 44 Plain Quoted 34 xs r (λ m. refl) (chars_pass 44 c r (λ m. refl)) l
  value_pass (list {xs = xs} {r = r} s i) l = opens_level 91 xs r l refl (spaces_inside s r l (items_pass i l))
  value_pass (object {xs = xs} {r = r} s i) l = opens_level 123 xs r l refl (spaces_inside s r l (members_pass i l))

  items_pass : {n : ℕ} {xs r : List ℕ} → Items n xs r → (l : ℕ) → part_rest 44 Plain (l + 1) xs ≡ part_rest 44 Plain l r
  items_pass (no_item {r = r}) l = closes_level 93 r r l refl refl refl refl
  items_pass (some_items i) l = some_items_pass i l

  some_items_pass : {n : ℕ} {xs r : List ℕ} → SomeItems n xs r → (l : ℕ) → part_rest 44 Plain (l + 1) xs ≡ part_rest 44 Plain l r
  some_items_pass (item {r = r} v s m) l = value_pass v (l + 1) ∙ spaces_inside s r l (more_items_pass m l)

  more_items_pass : {n : ℕ} {xs r : List ℕ} → MoreItems n xs r → (l : ℕ) → part_rest 44 Plain (l + 1) xs ≡ part_rest 44 Plain l r
  more_items_pass (list_end {r = r}) l = closes_level 93 r r l refl refl refl refl
  more_items_pass (next_item {xs = xs} {r = r} s i) l = comma_level xs r l (spaces_inside s r l (some_items_pass i l))

  members_pass : {n : ℕ} {xs r : List ℕ} → Members n xs r → (l : ℕ) → part_rest 44 Plain (l + 1) xs ≡ part_rest 44 Plain l r
  members_pass (no_member {r = r}) l = closes_level 125 r r l refl refl refl refl
  members_pass (some_members i) l = some_members_pass i l

  some_members_pass : {n : ℕ} {xs r : List ℕ} → SomeMembers n xs r → (l : ℕ) → part_rest 44 Plain (l + 1) xs ≡ part_rest 44 Plain l r
  some_members_pass (name {xs = xs} {ys = ys} c m) l = pass 44 Plain Quoted 34 xs ys (λ m. refl) (chars_pass 44 c ys (λ m. refl)) (l + 1) ∙ named_pass m l

  named_pass : {n : ℕ} {xs r : List ℕ} → Named n xs r → (l : ℕ) → part_rest 44 Plain (l + 1) xs ≡ part_rest 44 Plain l r
  named_pass (member {ys = ys} {r = r} s t v u m) l =
      spaces_inside s r l (colon_passes ys (l + 1) ∙ spaces_inside t r l (value_pass v (l + 1) ∙ spaces_inside u r l (more_members_pass m l)))

  more_members_pass : {n : ℕ} {xs r : List ℕ} → MoreMembers n xs r → (l : ℕ) → part_rest 44 Plain (l + 1) xs ≡ part_rest 44 Plain l r
  more_members_pass (object_end {r = r}) l = closes_level 125 r r l refl refl refl refl
  more_members_pass (next_member {xs = xs} {r = r} s i) l = comma_level xs r l (spaces_inside s r l (some_members_pass i l))

pub text_pass : (sep : ℕ) {xs r : List ℕ} → Chars xs r → Alike sep Plain (34 ∷ xs) r
text_pass sep {xs = xs} {r = r} c = pass sep Plain Quoted 34 xs r (λ m. refl) (chars_pass sep c r (λ m. refl))
