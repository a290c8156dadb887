use Rattle.kit_words.proofs.Common.{sym, ap, ◌∙◌, subst, rules}
use Rattle.json_spans.specs.Common.{IsValue, node}
use Rattle.json_spans.specs.Parts.{Node}
use Rattle.script_lines.proofs.IdLemmas.{string_found, text_json}
use Rattle.script_lines.proofs.ids.string_of.Goals as goal

pub returns-in-Ok : goal.returns-in-Ok
returns-in-Ok c =
    string_found c.args.token.now (node c.span.result) c.requires (ap node c.span.ensures ∙ c.in-Ok.ensures.span)
    (subst (λ (n : Node). IsValue 100 n.bytes) (sym (ap node c.span.ensures)) c.in-Ok.ensures.value)

pub returns-in-Err : goal.returns-in-Err
returns-in-Err c = λ text. c.in-Err.ensures.refused (search rules) (text_json 100 c.args.token.now text)
