use Rattle.kit_words.proofs.Common.{sym, subst, ◌∙◌}
use Rattle.json_spans.specs.Common.{Means}
use Rattle.json_spans.proofs.Meant.{means, whole_is}
use Rattle.json_spans.proofs.number.whole_text.Goals as goal

pub returns-clause-meaning : goal.returns-clause-meaning
returns-clause-meaning c = let text = c.args.text.now in subst (λ r. Means r text) (sym c.whole_of.ensures) (means text)

pub returns-clause-held : goal.returns-clause-held
returns-clause-held c = let text = c.args.text.now in λ z d. c.whole_of.ensures ∙ whole_is text z d
