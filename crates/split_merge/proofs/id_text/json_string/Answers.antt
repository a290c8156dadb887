use Rattle.kit_words.proofs.Common.{◌≡◌, List, ℕ, sym, ap, ◌∙◌, subst, [], ◌∷◌, IsUtf8, IfOk-weaker}
use Rattle.kit_words.proofs.Common.{IsUtf8-string_bytes}
use Rattle.std.proofs.Common.{append-nil}
use Rattle.json.specs.Print.{print, print_from, quoted}
use Rattle.json.specs.Token.{string}
use Rattle.topo_outline.specs.Common.{IsJson}
use Rattle.edit_records.specs.Common.{string_text}
use Rattle.map_text.proofs.StringTexts.{string_is_json}
use Rattle.split_merge.proofs.id_text.json_string.Goals as goal

-- what a writer prints for a text
printed_string : (s : List ℕ) → print (string s ∷ []) ≡ string_text s
unfolding print_from
printed_string s = append-nil (quoted s)

pub returns-clause-text : goal.returns-clause-text
returns-clause-text g c =
    IfOk-weaker c.printed.result (λ json. json.items ≡ print (string c.as_str.result.now ∷ [])) (λ json. json.items ≡ string_text c.args.id.now)
    (λ json e. e ∙ printed_string c.as_str.result.now ∙ ap string_text (c.as_str.ensures.value ∙ c.id.view_is))
    c.printed.ensures

pub returns-clause-json : goal.returns-clause-json
returns-clause-json g c =
    IfOk-weaker c.printed.result (λ json. json.items ≡ print (string c.as_str.result.now ∷ [])) (λ json. IsJson json.items)
    (λ json e. subst IsJson (sym (e ∙ printed_string c.as_str.result.now)) (string_is_json c.as_str.result.now (subst IsUtf8 (sym c.as_str.ensures.value) (IsUtf8-string_bytes c.id.inside.0))))
    c.printed.ensures
