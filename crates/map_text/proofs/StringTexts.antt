-- The JSON string that is written for a text is one, and stands for that text.
use Rattle.kit_words.proofs.Common.{◌≡◌, ℕ, zero, suc, ◌+◌, ◌/◌, ◌%◌, ◌<◌, ◌≤◌, ◌⊎◌, Bool, true, false, cond, ◌&&◌}
use Rattle.kit_words.proofs.Common.{nat_lt, nat_le, List, [], ◌∷◌, ◌++◌, refl, sym, ap, ◌∙◌, subst, inl, inr, arith}
use Rattle.kit_words.proofs.Common.{append_assoc, le-ltb, le-leb, IsUtf8, digit_char, cases_lt, cases_eq, and_parts}
use Rattle.kit_words.proofs.Common.{nat_tests, encode_ascii}
use Rattle.std.proofs.Common.{append-nil, lt-ltb}
use Rattle.std.proofs.lemmas.Grind.{flat_map-append}
use Rattle.std.proofs.Math.Utf8.{scalar, scalars, encode, encodes, next, scalar_cases}
use Rattle.json.specs.Print.{escape_letter, escape_byte, escape}
use Rattle.json.proofs.Printed.Strings.{escape_byte_plain}
use Rattle.json_spans.specs.Common.{is_ascii, is_escape, is_hex, is_three, is_tail, is_tail_e0, is_tail_ed, is_tail_f0}
use Rattle.json_spans.specs.Common.{is_tail_f4, IsText}
use Rattle.json_spans.specs.Grammar.{Chars, quote, ascii, two, three, three_e0, three_ed, four, four_f0, four_f4, escape as escaped, code}
use Rattle.json_spans.specs.Grammar as grammar
use Rattle.json_spans.specs.Inside as inside
use Rattle.topo_outline.specs.Common.{IsJson}
use Rattle.edit_records.specs.Common.{string_text}

-- before the characters of a string more of them stand
abbrev Leads : List ℕ → Type 0
Leads bs = (r : List ℕ) → Chars r [] → Chars (bs ++ r) []

-- ---- characters of one byte

-- what stands for the byte is in the grammar: a short escape, a code, or the byte itself
abbrev is_right : ℕ → Bool
is_right x =
    cond (nat_lt 0 (escape_letter x)) (is_escape (escape_letter x))
    (cond (nat_lt x 32) (is_hex (digit_char (x / 16)) && is_hex (digit_char (x % 16))) (is_ascii x))

abbrev are_right : ℕ → Bool
are_right zero = true
are_right (suc n) = is_right n && are_right n

all_right : are_right 128 ≡ true
all_right = refl

right_below : (n : ℕ) → are_right n ≡ true → (x : ℕ) → x < n → is_right x ≡ true
right_below zero e x h = absurd (omega arith)
right_below (suc n) e x h =
    let p = and_parts (is_right n) (are_right n) e in
    elim (cases_eq x n) [ inl same ↦ rw same p.0 | inr other ↦ right_below n p.1 x (omega arith) ]

byte_leads : (x : ℕ) → is_right x ≡ true → Leads (escape_byte x)
unfolding escape_byte
byte_leads x = by (nat_lt 0 (escape_letter x)) (nat_lt x 32)
  where
    by : (s t : Bool) → cond s (is_escape (escape_letter x)) (cond t (is_hex (digit_char (x / 16)) && is_hex (digit_char (x % 16))) (is_ascii x)) ≡ true
        → Leads (cond s (92 ∷ escape_letter x ∷ []) (cond t (92 ∷ 117 ∷ 48 ∷ 48 ∷ digit_char (x / 16) ∷ digit_char (x % 16) ∷ []) (x ∷ [])))
    by true t e r h = escaped {x = escape_letter x} e h
    by false true e r h =
        let p = and_parts (is_hex (digit_char (x / 16))) (is_hex (digit_char (x % 16))) e in
        code {a = 48} {b = 48} {c = digit_char (x / 16)} {d = digit_char (x % 16)} refl refl p.0 p.1 h
    by false false e r h = ascii {a = x} e h

-- ---- characters of two to four bytes

between : (m n x : ℕ) → m ≤ x → x ≤ n → (nat_le m x && nat_le x n) ≡ true
between m n x h k = rw (le-leb m x h, le-leb x n k) refl

tail_is : (x : ℕ) → is_tail (next x) ≡ true
tail_is x = between 128 191 (next x) (omega arith) (omega arith)

-- a byte from 128 on stands for itself
high_byte : (x : ℕ) → 128 ≤ x → escape_byte x ≡ x ∷ []
high_byte x h = escape_byte_plain x (λ e. omega arith) (λ e. omega arith) (omega arith)

encoded_two : (c : ℕ) → 128 ≤ c → c < 2048 → encode c ≡ (192 + c / 64) ∷ next c ∷ []
unfolding encode
encoded_two c l h = rw (le-ltb c 128 l, lt-ltb c 2048 h)

encoded_three : (c : ℕ) → 2048 ≤ c → c < 65536 → encode c ≡ (224 + c / 4096) ∷ next (c / 64) ∷ next c ∷ []
unfolding encode
encoded_three c l h = rw (le-ltb c 128 (omega arith), le-ltb c 2048 l, lt-ltb c 65536 h)

encoded_four : (c : ℕ) → 65536 ≤ c → encode c ≡ (240 + c / 262144) ∷ next (c / 4096) ∷ next (c / 64) ∷ next c ∷ []
unfolding encode
encoded_four c l = rw (le-ltb c 128 (omega arith), le-ltb c 2048 (omega arith), le-ltb c 65536 l)

high_two : (a b : ℕ) → 128 ≤ a → 128 ≤ b → escape (a ∷ b ∷ []) ≡ a ∷ b ∷ []
high_two a b h k = rw (high_byte a h, high_byte b k) refl

high_three : (a b c : ℕ) → 128 ≤ a → 128 ≤ b → 128 ≤ c → escape (a ∷ b ∷ c ∷ []) ≡ a ∷ b ∷ c ∷ []
high_three a b c h k l = rw (high_byte a h, high_byte b k, high_byte c l) refl

high_four : (a b c d : ℕ) → 128 ≤ a → 128 ≤ b → 128 ≤ c → 128 ≤ d → escape (a ∷ b ∷ c ∷ d ∷ []) ≡ a ∷ b ∷ c ∷ d ∷ []
high_four a b c d h k l m = rw (high_byte a h, high_byte b k, high_byte c l, high_byte d m) refl

two_lead : (c : ℕ) → 128 ≤ c → c < 2048 → Leads ((192 + c / 64) ∷ next c ∷ [])
two_lead c l h r k = two {a = 192 + c / 64} {b = next c} (between 194 223 (192 + c / 64) (omega arith) (omega arith)) (tail_is c) k

is_mid : (a : ℕ) → 225 ≤ a → a ≤ 239 → (a ≡ 237 → ⊥) → is_three a ≡ true
is_mid a h k n = grind (arith, nat_tests)

three_lead : (c : ℕ) → 2048 ≤ c → c < 65536 → (c < 55296) ⊎ (57344 ≤ c) → Leads ((224 + c / 4096) ∷ next (c / 64) ∷ next c ∷ [])
three_lead c l h range r k = elim (cases_eq (224 + c / 4096) 224) [
  | inl e ↦
      let narrow : is_tail_e0 (next (c / 64)) ≡ true = between 160 191 (next (c / 64)) (omega arith) (omega arith) in
      subst (λ a. Chars (a ∷ next (c / 64) ∷ next c ∷ r) []) (sym e) (three_e0 narrow (tail_is c) k)
  | inr n ↦ elim (cases_eq (224 + c / 4096) 237) [
    | inl e ↦
        let below : c < 55296 = elim range [ inl b ↦ b | inr b ↦ absurd (omega arith) ] in
        let narrow : is_tail_ed (next (c / 64)) ≡ true = between 128 159 (next (c / 64)) (omega arith) (omega arith) in
        subst (λ a. Chars (a ∷ next (c / 64) ∷ next c ∷ r) []) (sym e) (three_ed narrow (tail_is c) k)
    | inr m ↦ three {a = 224 + c / 4096} {b = next (c / 64)} {c = next c} (is_mid (224 + c / 4096) (omega arith) (omega arith) m) (tail_is (c / 64)) (tail_is c) k
  ]
]

four_lead : (c : ℕ) → 65536 ≤ c → c < 1114112 → Leads ((240 + c / 262144) ∷ next (c / 4096) ∷ next (c / 64) ∷ next c ∷ [])
four_lead c l h r k = elim (cases_eq (240 + c / 262144) 240) [
  | inl e ↦
      let narrow : is_tail_f0 (next (c / 4096)) ≡ true = between 144 191 (next (c / 4096)) (omega arith) (omega arith) in
      subst (λ a. Chars (a ∷ next (c / 4096) ∷ next (c / 64) ∷ next c ∷ r) []) (sym e) (four_f0 narrow (tail_is (c / 64)) (tail_is c) k)
  | inr n ↦ elim (cases_eq (240 + c / 262144) 244) [
    | inl e ↦
        let narrow : is_tail_f4 (next (c / 4096)) ≡ true = between 128 143 (next (c / 4096)) (omega arith) (omega arith) in
        subst (λ a. Chars (a ∷ next (c / 4096) ∷ next (c / 64) ∷ next c ∷ r) []) (sym e) (four_f4 narrow (tail_is (c / 64)) (tail_is c) k)
    | inr m ↦
        four {a = 240 + c / 262144} {b = next (c / 4096)} {c = next (c / 64)} {d = next c} (between 241 243 (240 + c / 262144) (omega arith) (omega arith)) (tail_is (c / 4096)) (tail_is (c / 64)) (tail_is c) k
  ]
]

-- ---- texts

low_half : (c : ℕ) → scalar c ≡ true → (c < 55296) ⊎ (57344 ≤ c)
low_half c ok = elim (scalar_cases c ok) [ inl a ↦ inl a | inr a ↦ inr a.0 ]

top : (c : ℕ) → scalar c ≡ true → c < 1114112
top c ok = elim (scalar_cases c ok) [ inl a ↦ omega arith | inr a ↦ a.1 ]

char_leads : (c : ℕ) → scalar c ≡ true → Leads (escape (encode c))
char_leads c ok = elim (cases_lt c 128) [
  | inl a ↦ subst Leads (sym (ap escape (encode_ascii c a) ∙ append-nil (escape_byte c))) (byte_leads c (right_below 128 all_right c a))
  | inr a ↦ elim (cases_lt c 2048) [
    | inl b ↦ subst Leads (sym (ap escape (encoded_two c a b) ∙ high_two _ _ (omega arith) (omega arith))) (two_lead c a b)
    | inr b ↦ elim (cases_lt c 65536) [
      | inl d ↦ subst Leads (sym (ap escape (encoded_three c b d) ∙ high_three _ _ _ (omega arith) (omega arith) (omega arith))) (three_lead c b d (low_half c ok))
      | inr d ↦ subst Leads (sym (ap escape (encoded_four c d) ∙ high_four _ _ _ _ (omega arith) (omega arith) (omega arith) (omega arith))) (four_lead c d (top c ok))
    ]
  ]
]

all_lead : (cs : List ℕ) → scalars cs ≡ true → Leads (escape (encodes cs))
all_lead [] ok r h = h
all_lead (c ∷ cs) ok r h =
    let p = and_parts (scalar c) (scalars cs) ok in
    subst (λ t. Chars t []) (sym (ap (λ t. t ++ r) (flat_map-append escape_byte (encode c) (encodes cs)) ∙ append_assoc (escape (encode c)) (escape (encodes cs)) r))
    (char_leads c p.0 (escape (encodes cs) ++ r) (all_lead cs p.1 r h))

-- the string of a text is a string of JSON
pub string_is_text : (text : List ℕ) → IsUtf8 text → IsText (string_text text)
string_is_text text u = inside.quoted (subst (λ t. Chars (escape t ++ (34 ∷ [])) []) u.1.1 (all_lead u.0 u.1.0 (34 ∷ []) quote))

json_text : (t : List ℕ) → IsText t → IsJson t
json_text t (inside.quoted k) = (0, grammar.text k)

-- and so it is JSON
pub string_is_json : (text : List ℕ) → IsUtf8 text → IsJson (string_text text)
string_is_json text u = json_text (string_text text) (string_is_text text u)
