-- What stands at the start of a text stands before every other rest too.
use Rattle.kit_words.proofs.Common.{◌≡◌, ℕ, List, [], ◌∷◌, ◌++◌, Bool, true, false, refl, sym, ap, subst, ◌∙◌, arith}
use Rattle.kit_words.proofs.Common.{reverse, take_while, nat_tests, append-nil, reverse-append, take_while-cons}
use Rattle.std.proofs.lemmas.List.{append_assoc}
use Rattle.json_spans.specs.Common.{is_space, is_digit, is_nonzero, is_e, is_sign, Space, no_space, space, Digits}
use Rattle.json_spans.specs.Common.{no_digit, digit, SomeDigits, digits, Signed, sign, unsigned, Exponent, no_exponent}
use Rattle.json_spans.specs.Common.{exponent, Fraction, no_fraction, fraction, Unsigned, zero_first, digit_first}
use Rattle.json_spans.specs.Common.{Number, minus, plain_number, Chars, quote, ascii, two, three, three_e0, three_ed}
use Rattle.json_spans.specs.Common.{four, four_f0, four_f4, escape, code, Value, null, yes, no, number, text, list}
use Rattle.json_spans.specs.Common.{object, Items, no_item, some_items, SomeItems, item, MoreItems, list_end, next_item}
use Rattle.json_spans.specs.Common.{Members, no_member, some_members, SomeMembers, name, Named, member, MoreMembers}
use Rattle.json_spans.specs.Common.{object_end, next_member}
use Rattle.json_spans.proofs.Completes.{Part, Then}

-- ---- the ends of texts

-- the last byte, if there is one, is no space
abbrev pub Firm : List ℕ → Type 0
Firm bs = take_while is_space (reverse bs) ≡ []

-- the last byte is no space, whatever stands before
abbrev pub Closed : List ℕ → Type 0
Closed bs = (us : List ℕ) → Firm (us ++ bs)

abbrev pub Any : List ℕ → Type 0
Any bs = Unit {0}

stops : (ys zs : List ℕ) → take_while is_space ys ≡ [] → take_while is_space zs ≡ [] → take_while is_space (ys ++ zs) ≡ []
stops [] zs e f = f
stops (y ∷ ys) zs e f = by_test (is_space y) refl where
  by_test : (b : Bool) → is_space y ≡ b → take_while is_space (y ∷ (ys ++ zs)) ≡ []
  by_test true t = let h = rw (take_while-cons is_space y ys, t) at e in absurd cc
  by_test false t = rw (take_while-cons is_space y (ys ++ zs), t) refl

firm_join : (us bs : List ℕ) → Firm us → Firm bs → Firm (us ++ bs)
firm_join us bs a b = rw (reverse-append us bs) (stops (reverse bs) (reverse us) b a)

firm_last : (us : List ℕ) (x : ℕ) → is_space x ≡ false → Firm (us ++ (x ∷ []))
firm_last us x e = rw (reverse-append us (x ∷ []), take_while-cons is_space x (reverse us), e) refl

closed_last : (x : ℕ) → is_space x ≡ false → Closed (x ∷ [])
closed_last x e us = firm_last us x e

closed_more : (us bs : List ℕ) → Closed bs → Closed (us ++ bs)
closed_more us bs c cs = subst Firm (append_assoc cs us bs) (c (cs ++ us))

-- ---- frames

-- the bytes of a part, which it would be before any rest
pub record Framed (A : Part) (E : List ℕ → Type 0) (xs r : List ℕ) : Type 0 where
  pub bs : List ℕ
  pub is : xs ≡ bs ++ r
  pub ends : E bs
  pub before : (s : List ℕ) → A (bs ++ s) s

-- the part alone
pub alone : {A : Part} {E : List ℕ → Type 0} {xs r : List ℕ} → (f : Framed A E xs r) → A f.bs []
alone {A = A} f = subst (λ w. A w []) (append-nil f.bs) (f.before [])

remade : {A B : Part} {E : List ℕ → Type 0} {xs r : List ℕ} → ((ys s : List ℕ) → A ys s → B ys s) → Framed A E xs r → Framed B E xs r
remade g f = record { bs = f.bs; is = f.is; ends = f.ends; before = λ s. g (f.bs ++ s) s (f.before s) }

after : {A B : Part} {E F : List ℕ → Type 0} {xs ys r : List ℕ} → (G : List ℕ → Type 0) → ((us bs : List ℕ) → E us → F bs → G (us ++ bs)) → Framed A E xs ys → Framed B F ys r → Framed (Then A B) G xs r
after {A = A} {r = r} G join a b = record {
  bs = a.bs ++ b.bs;
  is = a.is ∙ ap (λ w. a.bs ++ w) b.is ∙ sym (append_assoc a.bs b.bs r);
  ends = join a.bs b.bs a.ends b.ends;
  before = λ s. (b.bs ++ s, subst (λ w. A w (b.bs ++ s)) (sym (append_assoc a.bs b.bs s)) (a.before (b.bs ++ s)), b.before s);
}

prefix : {A B : Part} {E : List ℕ → Type 0} {xs r : List ℕ} → (F : List ℕ → Type 0) (p : List ℕ) → ((bs : List ℕ) → E bs → F (p ++ bs)) → ((ys s : List ℕ) → A ys s → B (p ++ ys) s) → Framed A E xs r → Framed B F (p ++ xs) r
prefix {B = B} {r = r} F p ends g f = record {
  bs = p ++ f.bs;
  is = ap (λ w. p ++ w) f.is ∙ sym (append_assoc p f.bs r);
  ends = ends f.bs f.ends;
  before = λ s. subst (λ w. B w s) (sym (append_assoc p f.bs s)) (g (f.bs ++ s) s (f.before s));
}

-- a byte, and then a part
byte_then : {A B : Part} {xs r : List ℕ} → (x : ℕ) → is_space x ≡ false → ((ys s : List ℕ) → A ys s → B (x ∷ ys) s) → Framed A Firm xs r → Framed B Firm (x ∷ xs) r
byte_then x e g f = prefix Firm (x ∷ []) (λ bs b. firm_join (x ∷ []) bs (firm_last [] x e) b) g f

-- bytes, and then a part that ends in a byte of its own
bytes_then : {A B : Part} {xs r : List ℕ} → (p : List ℕ) → ((ys s : List ℕ) → A ys s → B (p ++ ys) s) → Framed A Closed xs r → Framed B Closed (p ++ xs) r
bytes_then p g f = prefix Closed p (closed_more p) g f

-- a bracket or a quotation mark, and then such a part
opened : {A B : Part} {xs r : List ℕ} → (x : ℕ) → ((ys s : List ℕ) → A ys s → B (x ∷ ys) s) → Framed A Closed xs r → Framed B Firm (x ∷ xs) r
opened x g f = prefix Firm (x ∷ []) (λ bs c. c (x ∷ [])) g f

joined : {A B : Part} {xs ys r : List ℕ} → Framed A Firm xs ys → Framed B Firm ys r → Framed (Then A B) Firm xs r
joined a b = after Firm firm_join a b

closing : {A B : Part} {E : List ℕ → Type 0} {xs ys r : List ℕ} → Framed A E xs ys → Framed B Closed ys r → Framed (Then A B) Closed xs r
closing a b = after Closed (λ us bs _ c. closed_more us bs c) a b

-- ---- spaces and numbers

pub space_framed : {xs r : List ℕ} → Space xs r → Framed Space Any xs r
space_framed no_space = record { bs = []; is = refl; ends = tt; before = λ s. no_space }
space_framed (space {x = x} e a) = prefix Any (x ∷ []) (λ bs _. tt) (λ ys s h. space e h) (space_framed a)

digit_firm : (x : ℕ) → is_digit x ≡ true → is_space x ≡ false
digit_firm x e = grind (arith, nat_tests)

nonzero_firm : (x : ℕ) → is_nonzero x ≡ true → is_space x ≡ false
nonzero_firm x e = grind (arith, nat_tests)

e_firm : (x : ℕ) → is_e x ≡ true → is_space x ≡ false
e_firm x e = grind (arith, nat_tests)

sign_firm : (x : ℕ) → is_sign x ≡ true → is_space x ≡ false
sign_firm x e = grind (arith, nat_tests)

digits_framed : {xs r : List ℕ} → Digits xs r → Framed Digits Firm xs r
digits_framed no_digit = record { bs = []; is = refl; ends = refl; before = λ s. no_digit }
digits_framed (digit {x = x} e d) = byte_then x (digit_firm x e) (λ ys s h. digit e h) (digits_framed d)

some_digits_framed : {xs r : List ℕ} → SomeDigits xs r → Framed SomeDigits Firm xs r
some_digits_framed (digits {x = x} e d) = byte_then x (digit_firm x e) (λ ys s h. digits e h) (digits_framed d)

signed_framed : {xs r : List ℕ} → Signed xs r → Framed Signed Firm xs r
signed_framed (sign {x = x} e d) = byte_then x (sign_firm x e) (λ ys s h. sign e h) (some_digits_framed d)
signed_framed (unsigned d) = remade (λ ys s h. unsigned h) (some_digits_framed d)

exponent_framed : {xs r : List ℕ} → Exponent xs r → Framed Exponent Firm xs r
exponent_framed no_exponent = record { bs = []; is = refl; ends = refl; before = λ s. no_exponent }
exponent_framed (exponent {x = x} e d) = byte_then x (e_firm x e) (λ ys s h. exponent e h) (signed_framed d)

fraction_framed : {xs r : List ℕ} → Fraction xs r → Framed Fraction Firm xs r
fraction_framed (no_fraction e) = remade (λ ys s h. no_fraction h) (exponent_framed e)
fraction_framed (fraction d e) = byte_then 46 refl (λ ys s h. fraction h.1 h.2) (joined (some_digits_framed d) (exponent_framed e))

unsigned_framed : {xs r : List ℕ} → Unsigned xs r → Framed Unsigned Firm xs r
unsigned_framed (zero_first f) = byte_then 48 refl (λ ys s h. zero_first h) (fraction_framed f)
unsigned_framed (digit_first {x = x} e d f) = byte_then x (nonzero_firm x e) (λ ys s h. digit_first e h.1 h.2) (joined (digits_framed d) (fraction_framed f))

number_framed : {xs r : List ℕ} → Number xs r → Framed Number Firm xs r
number_framed (minus u) = byte_then 45 refl (λ ys s h. minus h) (unsigned_framed u)
number_framed (plain_number u) = remade (λ ys s h. plain_number h) (unsigned_framed u)

-- ---- strings

pub chars_framed : {xs r : List ℕ} → Chars xs r → Framed Chars Closed xs r
chars_framed quote = record { bs = 34 ∷ []; is = refl; ends = closed_last 34 refl; before = λ s. quote }
chars_framed (ascii {a = a} e k) = bytes_then (a ∷ []) (λ ys s h. ascii e h) (chars_framed k)
chars_framed (two {a = a} {b = b} e f k) = bytes_then (a ∷ b ∷ []) (λ ys s h. two e f h) (chars_framed k)
chars_framed (three {a = a} {b = b} {c = c} e f g k) = bytes_then (a ∷ b ∷ c ∷ []) (λ ys s h. three e f g h) (chars_framed k)
chars_framed (three_e0 {b = b} {c = c} f g k) = bytes_then (224 ∷ b ∷ c ∷ []) (λ ys s h. three_e0 f g h) (chars_framed k)
chars_framed (three_ed {b = b} {c = c} f g k) = bytes_then (237 ∷ b ∷ c ∷ []) (λ ys s h. three_ed f g h) (chars_framed k)
chars_framed (four {a = a} {b = b} {c = c} {d = d} e f g i k) = bytes_then (a ∷ b ∷ c ∷ d ∷ []) (λ ys s h. four e f g i h) (chars_framed k)
chars_framed (four_f0 {b = b} {c = c} {d = d} f g i k) = bytes_then (240 ∷ b ∷ c ∷ d ∷ []) (λ ys s h. four_f0 f g i h) (chars_framed k)
chars_framed (four_f4 {b = b} {c = c} {d = d} f g i k) = bytes_then (244 ∷ b ∷ c ∷ d ∷ []) (λ ys s h. four_f4 f g i h) (chars_framed k)
chars_framed (escape {x = x} e k) = bytes_then (92 ∷ x ∷ []) (λ ys s h. escape e h) (chars_framed k)
chars_framed (code {a = a} {b = b} {c = c} {d = d} e f g i k) = bytes_then (92 ∷ 117 ∷ a ∷ b ∷ c ∷ d ∷ []) (λ ys s h. code e f g i h) (chars_framed k)

-- ---- values

-- a colon, and then a part
data Colon (A : Part) : List ℕ → List ℕ → Type 0 where
  colon : {xs r : List ℕ} → A xs r → Colon A (58 ∷ xs) r

-- after a member's colon
abbrev MemberRest : ℕ → Part
MemberRest n xs r = Then Space (Then (Value n) (Then Space (MoreMembers n))) xs r

named : (n : ℕ) (xs ys r : List ℕ) → Space xs ys → Colon (MemberRest n) ys r → Named n xs r
named n xs ys r a (colon h) = member a h.1 h.2.1 h.2.2.1 h.2.2.2

named_then : (n : ℕ) {xs ys r : List ℕ} → Framed Space Any xs (58 ∷ ys) → Framed (MemberRest n) Closed ys r → Framed (Named n) Closed xs r
named_then n a m =
    let behind = bytes_then {B = Colon (MemberRest n)} (58 ∷ []) (λ ys s h. colon h) m in
    remade (λ ys s h. named n ys h.0 s h.1 h.2) (closing a behind)

mutual
  pub value_framed : {n : ℕ} {xs r : List ℕ} → Value n xs r → Framed (Value n) Firm xs r
  value_framed null = record { bs = 110 ∷ 117 ∷ 108 ∷ 108 ∷ []; is = refl; ends = refl; before = λ s. null }
  value_framed yes = record { bs = 116 ∷ 114 ∷ 117 ∷ 101 ∷ []; is = refl; ends = refl; before = λ s. yes }
  value_framed no = record { bs = 102 ∷ 97 ∷ 108 ∷ 115 ∷ 101 ∷ []; is = refl; ends = refl; before = λ s. no }
  value_framed (number d) = remade (λ ys s h. number h) (number_framed d)
  value_framed (text k) = opened 34 (λ ys s h. text h) (chars_framed k)
  value_framed (list a i) = opened 91 (λ ys s h. list h.1 h.2) (closing (space_framed a) (items_framed i))
  value_framed (object a i) = opened 123 (λ ys s h. object h.1 h.2) (closing (space_framed a) (members_framed i))

  items_framed : {n : ℕ} {xs r : List ℕ} → Items n xs r → Framed (Items n) Closed xs r
  items_framed no_item = record { bs = 93 ∷ []; is = refl; ends = closed_last 93 refl; before = λ s. no_item }
  items_framed (some_items i) = remade (λ ys s h. some_items h) (some_items_framed i)

  some_items_framed : {n : ℕ} {xs r : List ℕ} → SomeItems n xs r → Framed (SomeItems n) Closed xs r
  some_items_framed (item v a m) = remade (λ ys s h. item h.1 h.2.1 h.2.2) (closing (value_framed v) (closing (space_framed a) (more_items_framed m)))

  more_items_framed : {n : ℕ} {xs r : List ℕ} → MoreItems n xs r → Framed (MoreItems n) Closed xs r
  more_items_framed list_end = record { bs = 93 ∷ []; is = refl; ends = closed_last 93 refl; before = λ s. list_end }
  more_items_framed (next_item a i) = bytes_then (44 ∷ []) (λ ys s h. next_item h.1 h.2) (closing (space_framed a) (some_items_framed i))

  members_framed : {n : ℕ} {xs r : List ℕ} → Members n xs r → Framed (Members n) Closed xs r
  members_framed no_member = record { bs = 125 ∷ []; is = refl; ends = closed_last 125 refl; before = λ s. no_member }
  members_framed (some_members i) = remade (λ ys s h. some_members h) (some_members_framed i)

  some_members_framed : {n : ℕ} {xs r : List ℕ} → SomeMembers n xs r → Framed (SomeMembers n) Closed xs r
  some_members_framed (name k m) = bytes_then (34 ∷ []) (λ ys s h. name h.1 h.2) (closing (chars_framed k) (named_framed m))

  named_framed : {n : ℕ} {xs r : List ℕ} → Named n xs r → Framed (Named n) Closed xs r
  named_framed {n = n} (member a b v c m) = named_then n (space_framed a) (closing (space_framed b) (closing (value_framed v) (closing (space_framed c) (more_members_framed m))))

  more_members_framed : {n : ℕ} {xs r : List ℕ} → MoreMembers n xs r → Framed (MoreMembers n) Closed xs r
  more_members_framed object_end = record { bs = 125 ∷ []; is = refl; ends = closed_last 125 refl; before = λ s. object_end }
  more_members_framed (next_member a i) = bytes_then (44 ∷ []) (λ ys s h. next_member h.1 h.2) (closing (space_framed a) (some_members_framed i))
