-- The text that a JSON string stands for.
use Rattle.kit_words.proofs.Common.{◌≡◌, ℕ, ◌-◌, true, false, refl, ap, ◌∙◌, subst, List, [], ◌∷◌, ◌++◌}
use Rattle.kit_words.proofs.Common.{length, take, drop, arith, reverse, Some, None, take_while}
use Rattle.kit_words.proofs.Common.{false≢true, reverse-append, take_all, take_while-cons}
use Rattle.ring_machine.specs.Common.{Text}
use Rattle.json_spans.specs.Common.{is_space, is_nonzero, Chars, quote, ascii, two, three, three_e0, three_ed, four}
use Rattle.json_spans.specs.Common.{four_f0, four_f4, escape, code, Number, minus, plain_number, zero_first}
use Rattle.json_spans.specs.Common.{digit_first, Value, null, yes, no, number, text, list, object, no_space, Json, json}
use Rattle.json_spans.specs.Common.{IsValue, IsText, quoted, decoded, spaces_before, spaces_behind, before_spaces}
use Rattle.json_spans.specs.Common.{trimmed}
use Rattle.json_spans.specs.Parts.{Node}
use Rattle.topo_outline.specs.Common.{IsName}
use Rattle.edit_records.specs.Common.{string_text}
use Rattle.script_lines.specs.Common.{Gives, IsMarked}

-- ---- a JSON string ends in a quotation mark

ends_in : {xs r : List ℕ} → Chars xs r → (before : List ℕ) × (xs ≡ before ++ 34 ∷ r)
ends_in quote = ([], refl)
ends_in (ascii {a = a} e k) = let h = ends_in k in (a ∷ h.0, ap (λ t. a ∷ t) h.1)
ends_in (two {a = a} {b = b} e f k) = let h = ends_in k in (a ∷ b ∷ h.0, ap (λ t. a ∷ b ∷ t) h.1)
ends_in (three {a = a} {b = b} {c = c} e f g k) = let h = ends_in k in (a ∷ b ∷ c ∷ h.0, ap (λ t. a ∷ b ∷ c ∷ t) h.1)
ends_in (three_e0 {b = b} {c = c} f g k) = let h = ends_in k in (224 ∷ b ∷ c ∷ h.0, ap (λ t. 224 ∷ b ∷ c ∷ t) h.1)
ends_in (three_ed {b = b} {c = c} f g k) = let h = ends_in k in (237 ∷ b ∷ c ∷ h.0, ap (λ t. 237 ∷ b ∷ c ∷ t) h.1)
ends_in (four {a = a} {b = b} {c = c} {d = d} e f g i k) = let h = ends_in k in (a ∷ b ∷ c ∷ d ∷ h.0, ap (λ t. a ∷ b ∷ c ∷ d ∷ t) h.1)
ends_in (four_f0 {b = b} {c = c} {d = d} f g i k) = let h = ends_in k in (240 ∷ b ∷ c ∷ d ∷ h.0, ap (λ t. 240 ∷ b ∷ c ∷ d ∷ t) h.1)
ends_in (four_f4 {b = b} {c = c} {d = d} f g i k) = let h = ends_in k in (244 ∷ b ∷ c ∷ d ∷ h.0, ap (λ t. 244 ∷ b ∷ c ∷ d ∷ t) h.1)
ends_in (escape {x = x} e k) = let h = ends_in k in (92 ∷ x ∷ h.0, ap (λ t. 92 ∷ x ∷ t) h.1)
ends_in (code {a = a} {b = b} {c = c} {d = d} e f g i k) = let h = ends_in k in (92 ∷ 117 ∷ a ∷ b ∷ c ∷ d ∷ h.0, ap (λ t. 92 ∷ 117 ∷ a ∷ b ∷ c ∷ d ∷ t) h.1)

text_marked : (token : List ℕ) → IsText token → IsMarked token
text_marked token (quoted {xs = xs} k) = record { behind = xs; before = 34 ∷ (ends_in k).0; begins = refl; ends = ap (λ t. 34 ∷ t) (ends_in k).1 }

pub gives_marked : (token id : Text) → Gives token id → IsMarked token
gives_marked token id g = text_marked token g.stands.string

-- ---- a value that begins with a quotation mark is a string

same_first : (a b : ℕ) (xs ys : List ℕ) → a ∷ xs ≡ b ∷ ys → a ≡ b
same_first a b xs ys e = cc

no_digit : (x : ℕ) → is_nonzero x ≡ true → x ≡ 34 → ⊥
no_digit x t e = false≢true (subst (λ y. is_nonzero y ≡ true) e t)

no_number : {ys r : List ℕ} → Number ys r → (behind : List ℕ) → ys ≡ 34 ∷ behind → ⊥
no_number (minus {xs = xs} u) behind e = let h = same_first 45 34 xs behind e in absurd (omega arith)
no_number (plain_number (zero_first {xs = xs} f)) behind e = let h = same_first 48 34 xs behind e in absurd (omega arith)
no_number (plain_number (digit_first {x = x} {xs = xs} t d f)) behind e = no_digit x t (same_first x 34 xs behind e)

text_of : {n : ℕ} {ys r : List ℕ} → Value n ys r → r ≡ [] → (behind : List ℕ) → ys ≡ 34 ∷ behind → IsText ys
text_of (null {r = r}) z behind e = let h = same_first 110 34 (117 ∷ 108 ∷ 108 ∷ r) behind e in absurd (omega arith)
text_of (yes {r = r}) z behind e = let h = same_first 116 34 (114 ∷ 117 ∷ 101 ∷ r) behind e in absurd (omega arith)
text_of (no {r = r}) z behind e = let h = same_first 102 34 (97 ∷ 108 ∷ 115 ∷ 101 ∷ r) behind e in absurd (omega arith)
text_of (number d) z behind e = absurd (no_number d behind e)
text_of (text {xs = xs} d) z behind e = quoted (subst (λ r. Chars xs r) z d)
text_of (list {xs = xs} s d) z behind e = let h = same_first 91 34 xs behind e in absurd (omega arith)
text_of (object {xs = xs} s d) z behind e = let h = same_first 123 34 xs behind e in absurd (omega arith)

marked_text : (n : ℕ) (token : List ℕ) → IsMarked token → IsValue n token → IsText token
marked_text n token m v = text_of v refl m.behind m.begins

-- ---- no space stands round it

marked_whole : (token : List ℕ) → IsMarked token → (trimmed (record { at_byte = 0; bytes = token })).bytes ≡ token
marked_whole token m =
    let front : spaces_before token ≡ 0 = ap spaces_before m.begins in
    let none : take_while is_space (reverse token) ≡ [] = ap (λ t. take_while is_space (reverse t)) m.ends ∙ stop m.before in
    let back : spaces_behind token ≡ 0 = ap length none in
    ap (λ n. before_spaces (drop n token)) front ∙ ap (λ n. take (length token - n) token) back ∙ take_all (length token - 0) token (omega arith)
  where
    stop : (before : List ℕ) → take_while is_space (reverse (before ++ 34 ∷ [])) ≡ []
    stop before = rw (reverse-append before (34 ∷ []), take_while-cons is_space 34 (reverse before)) refl

-- ---- what a token stands for

-- a JSON string is a JSON text
pub text_json : (n : ℕ) (token : List ℕ) → IsText token → Json n token
text_json n token (quoted k) = json no_space (text k) no_space

-- the value of a text that begins and ends with quotation marks is the whole of it, and a string
pub string_found : (token : List ℕ) (n : Node) → IsMarked token → n ≡ trimmed (record { at_byte = 0; bytes = token }) → IsValue 100 n.bytes → (n.bytes ≡ token) × IsText token
string_found token n m e v =
    let same : n.bytes ≡ token = ap (λ (k : Node). k.bytes) e ∙ marked_whole token m in
    (same, marked_text 100 token m (subst (IsValue 100) same v))

pub name_found : (token name bytes : List ℕ) → bytes ≡ token → IsText token → decoded bytes ≡ Some name → IsName token name
name_found token name bytes same t d = record { string = t; says = subst (λ u. decoded u ≡ Some name) same d }

pub no_name : (token name bytes : List ℕ) → bytes ≡ token → decoded bytes ≡ None → IsName token name → ⊥
no_name token name bytes same d h =
    let none : decoded token ≡ None = subst (λ u. decoded u ≡ None) same d in
    let some = h.says in
    cc

pub no_text : (token name : List ℕ) → (IsText token → ⊥) → IsName token name → ⊥
no_text token name never h = never h.string

-- the id that is written for the text
pub gives : (token name : List ℕ) → IsName token name → Gives token (string_text name)
gives token name h = record { name = name; stands = h; written = refl }
