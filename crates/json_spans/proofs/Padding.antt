-- What has space round it.
use Rattle.kit_words.proofs.Common.{◌≡◌, ℕ, ◌+◌, ◌-◌, List, [], ◌∷◌, ◌++◌, length, drop, true, false, refl, sym, ap}
use Rattle.kit_words.proofs.Common.{subst, ◌∙◌, arith, reverse, take_while, nat_tests, append-nil, reverse-append}
use Rattle.kit_words.proofs.Common.{length-append, take_while-cons, drop-append_seam, take-append_seam}
use Rattle.std.proofs.lemmas.List.{append_assoc}
use Rattle.json_spans.specs.Common.{is_space, is_nonzero, has_first, closes, spaces_before, spaces_behind}
use Rattle.json_spans.specs.Common.{before_spaces, trimmed, Space, no_space, space, Number, minus, plain_number}
use Rattle.json_spans.specs.Common.{zero_first, digit_first, Value, null, yes, no, number, text, list, object, IsValue}
use Rattle.json_spans.specs.Common.{IsText, quoted, Padded, padded, Plain}
use Rattle.json_spans.specs.Parts.{Node}
use Rattle.json_spans.proofs.Completes.{Part}
use Rattle.json_spans.proofs.Framing.{Framed, Firm, space_framed, chars_framed, value_framed}
use Rattle.json_spans.proofs.Skipping.{Alike, NoSpace, spaces_skip}

-- ---- frames of a whole

same : {A : Part} {E : List ℕ → Type 0} {xs : List ℕ} → (f : Framed A E xs []) → f.bs ≡ xs
same f = sym (f.is ∙ append-nil f.bs)

-- a part that is all there is stands before any rest
pub stands : {A : Part} {E : List ℕ → Type 0} {xs : List ℕ} → Framed A E xs [] → (s : List ℕ) → A (xs ++ s) s
stands {A = A} f s = subst (λ w. A (w ++ s) s) (same f) (f.before s)

-- ---- texts that begin and end with neither a space nor a closing bracket

pub record Solid (v : List ℕ) : Type 0 where
  pub begins : (w : List ℕ) → spaces_before (v ++ w) ≡ 0
  pub first : (w : List ℕ) → has_first (v ++ w) ≡ true
  pub ends : Firm v

nonzero_begins : (x : ℕ) → is_nonzero x ≡ true → (is_space x ≡ false) × (closes x ≡ false)
nonzero_begins x e = (grind (arith, nat_tests), grind (arith, nat_tests))

number_begins : {xs r : List ℕ} → Number xs r → (spaces_before xs ≡ 0) × (has_first xs ≡ true)
number_begins (minus u) = (refl, refl)
number_begins (plain_number (zero_first f)) = (refl, refl)
number_begins (plain_number (digit_first {x = x} e d f)) =
    let h = nonzero_begins x e in
    (rw h.0 refl, rw h.1 refl)

value_begins : {n : ℕ} {xs r : List ℕ} → Value n xs r → (spaces_before xs ≡ 0) × (has_first xs ≡ true)
value_begins null = (refl, refl)
value_begins yes = (refl, refl)
value_begins no = (refl, refl)
value_begins (number d) = number_begins d
value_begins (text d) = (refl, refl)
value_begins (list s d) = (refl, refl)
value_begins (object s d) = (refl, refl)

pub value_solid : (n : ℕ) (v : List ℕ) → IsValue n v → Solid v
value_solid n v d =
    let f = value_framed d in
    record {
      begins = λ w. (value_begins (stands f w)).0;
      first = λ w. (value_begins (stands f w)).1;
      ends = subst Firm (same f) f.ends;
    }

pub text_solid : (v : List ℕ) → IsText v → Solid v
text_solid v (quoted k) =
    let f = chars_framed k in
    record { begins = λ w. refl; first = λ w. refl; ends = subst (λ w. Firm (34 ∷ w)) (same f) (f.ends (34 ∷ [])) }

-- ---- spaces

pub spaces_all : {a : List ℕ} → Space a [] → (w : List ℕ) → spaces_before w ≡ 0 → spaces_before (a ++ w) ≡ length a
spaces_all no_space w e = e
spaces_all (space t s) w e = let k = spaces_all s w e in rw t (omega (arith, k))

spaces_end : {b : List ℕ} → Space b [] → (zs : List ℕ) → length (take_while is_space (reverse b ++ zs)) ≡ length b + length (take_while is_space zs)
spaces_end no_space zs = omega arith
spaces_end (space {x = x} {xs = xs} t s) zs =
    let e = ap (λ w. w ++ zs) (reverse-append (x ∷ []) xs) ∙ append_assoc (reverse xs) (x ∷ []) zs in
    let k = rw (take_while-cons is_space x zs, t) at (spaces_end s (x ∷ zs)) in
    rw e (omega (arith, k))

before_spaces_is : (v b : List ℕ) → Firm v → Space b [] → before_spaces (v ++ b) ≡ v
before_spaces_is v b f s =
    let end = spaces_end s (reverse v) in
    let behind : spaces_behind (v ++ b) ≡ length b = rw (reverse-append v b) (omega (arith, end, ap length f)) in
    let kept : length (v ++ b) - length b ≡ length v = omega (arith, length-append v b) in
    rw (behind, kept) (take-append_seam v b)

-- ---- padded texts

pub trimmed_is : {A : List ℕ → Type 0} {place : ℕ} {xs : List ℕ} {node : Node} → ((v : List ℕ) → A v → Solid v) → Padded A place xs node → trimmed (record { at_byte = place; bytes = xs }) ≡ node
trimmed_is h (padded {front = front} {bytes = bytes} {back = back} a v b) =
    let s = h bytes v in
    let before = spaces_all a (bytes ++ back) (s.begins back) in
    rw (before, drop-append_seam front (bytes ++ back), before_spaces_is bytes back s.ends b) refl

regroup : (front bytes back rest : List ℕ) → (front ++ (bytes ++ back)) ++ rest ≡ front ++ (bytes ++ (back ++ rest))
regroup front bytes back rest = simp append_assoc

-- no closing bracket stands first
pub first_is : {A : List ℕ → Type 0} {place : ℕ} {xs : List ℕ} {node : Node} → ((v : List ℕ) → A v → Solid v) → Padded A place xs node → (rest : List ℕ) → has_first (drop (spaces_before (xs ++ rest)) (xs ++ rest)) ≡ true
first_is h (padded {front = front} {bytes = bytes} {back = back} a v b) rest =
    let s = h bytes v in
    let before = spaces_all a (bytes ++ (back ++ rest)) (s.begins (back ++ rest)) in
    rw (regroup front bytes back rest, before, drop-append_seam front (bytes ++ (back ++ rest))) (s.first (back ++ rest))

-- a part goes on past it
pub padded_skip : {A : List ℕ → Type 0} {place : ℕ} {xs : List ℕ} {node : Node} → (sep : ℕ) → NoSpace sep → ((v : List ℕ) → A v → (s : List ℕ) → Alike sep Plain (v ++ s) s) → Padded A place xs node → (rest : List ℕ) → Alike sep Plain (xs ++ rest) rest
padded_skip sep n h (padded {front = front} {bytes = bytes} {back = back} a v b) rest l =
    rw (regroup front bytes back rest)
    (spaces_skip sep n (stands (space_framed a) (bytes ++ (back ++ rest))) rest
    (λ l. h bytes v (back ++ rest) l ∙ spaces_skip sep n (stands (space_framed b) rest) rest (λ l. refl) l) l)
