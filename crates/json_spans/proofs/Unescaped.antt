-- A JSON string with no escape stands for the bytes between its quotes.
use Rattle.kit_words.proofs.Common.{◌≡◌, ℕ, nat_le, List, [], ◌∷◌, ◌++◌, true, false, refl, sym, ap, ap₂, ◌∙◌, arith}
use Rattle.kit_words.proofs.Common.{◌==◌, Some, IsUtf8, list_all, and_parts, eqb-false, leb-true, nat_tests}
use Rattle.std.proofs.Common.{append-nil}
use Rattle.std.specs.Prelude.{option_and_then}
use Rattle.json.specs.Print.{escape_byte, escape}
use Rattle.json.specs.Lex.{tokens}
use Rattle.json.specs.Json as json
use Rattle.json.specs.Tree.{json_tokens}
use Rattle.json.proofs.Printed.Strings.{escape_byte_plain}
use Rattle.json.proofs.Printed.Utf8.{IsUtf8-quoted}
use Rattle.json.proofs.Printed.Tokens.{tokens-print}
use Rattle.json.proofs.Printed.Trees.{value-json_tokens, ArePrintable-json_tokens}
use Rattle.serde_json.specs.Data.{string}
use Rattle.serde_json.specs.Read.{read, of_json, max_depth}
use Rattle.serde_json.specs.Written.{compact_text}
use Rattle.serde_json.proofs.Texts.{print-outline}
use Rattle.json_spans.specs.Common.{is_unescaped, decoded}
use Rattle.json_spans.proofs.Decoding.{decoded_as}

-- the string that is written for a text

string_tokens : (text : List ℕ) → tokens (compact_text (string text)) ≡ json_tokens (json.string text)
string_tokens text =
    ap tokens (sym (print-outline (string text))) ∙ tokens-print (json_tokens (json.string text)) (ArePrintable-json_tokens (json.string text) tt)

string_read : (text : List ℕ) → read (compact_text (string text)) ≡ Some (string text)
string_read text =
    ap (λ v. option_and_then of_json (option_and_then (λ p. json.if_last p.0 p.1) v)) (ap (json.value max_depth) (string_tokens text ∙ sym (append-nil _))
    ∙ value-json_tokens (json.string text) max_depth [] (omega arith))

-- stands for that text
pub decoded_written : (text : List ℕ) → IsUtf8 text → decoded (compact_text (string text)) ≡ Some text
decoded_written text u = decoded_as (compact_text (string text)) (string text) (IsUtf8-quoted text u) (string_read text)

-- and bytes with no escape are written as they are

is_none : (x : ℕ) → is_unescaped x ≡ true → ((x == 34) ≡ false) × ((x == 92) ≡ false)
is_none x h = (grind (arith, nat_tests), grind (arith, nat_tests))

is_high : (x : ℕ) → is_unescaped x ≡ true → nat_le 32 x ≡ true
is_high x h = grind (arith, nat_tests)

byte_same : (x : ℕ) → is_unescaped x ≡ true → escape_byte x ≡ x ∷ []
byte_same x h =
    let p = is_none x h in
    escape_byte_plain x (eqb-false x 34 p.0) (eqb-false x 92 p.1) (leb-true 32 x (is_high x h))

escape_same : (xs : List ℕ) → list_all is_unescaped xs ≡ true → escape xs ≡ xs
escape_same [] h = refl
escape_same (x ∷ xs) h =
    let p = and_parts (is_unescaped x) (list_all is_unescaped xs) h in
    ap₂ (λ (a b : List ℕ). a ++ b) (byte_same x p.0) (escape_same xs p.1)

pub decoded_unescaped : (text bytes : List ℕ) → bytes ≡ 34 ∷ (text ++ (34 ∷ [])) → list_all is_unescaped text ≡ true → IsUtf8 text → decoded bytes ≡ Some text
decoded_unescaped text bytes e h u = ap decoded (e ∙ ap (λ t. 34 ∷ (t ++ (34 ∷ []))) (sym (escape_same text h))) ∙ decoded_written text u
