use Rattle.kit_words.proofs.Common.{sym, ◌∙◌, []}
use Rattle.script_lines.proofs.WordLemmas.{is_nil}
use Rattle.script_lines.proofs.CommandLemmas.{not_empty, features_none, features_rest, features_more}
use Rattle.script_lines.proofs.parsing.feature_behind.Goals as goal

pub returns-in_err-feature : goal.returns-in_err-feature
returns-in_err-feature c = rw c.from_residual.ensures (λ n h. features_none c.args.tail.now n [] c.in_err-feature.ensures h)

pub returns-then-is_empty : goal.returns-then-is_empty
returns-then-is_empty c =
    features_more c.args.tail.now c.in_ok-feature.end.now c.in_ok-feature.feature [] c.in_ok-feature.ensures (is_nil c.in_ok-feature.end.now (sym c.is_empty.ensures ∙ c.if-is_empty.true), tt)

pub returns-else-is_empty : goal.returns-else-is_empty
returns-else-is_empty c = λ n h.
    not_empty c.in_ok-feature.end.now (sym c.is_empty.ensures ∙ c.if-is_empty.false) (features_rest c.args.tail.now c.in_ok-feature.end.now c.in_ok-feature.feature n [] c.in_ok-feature.ensures h).0
