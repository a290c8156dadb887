use Rattle.kit_words.proofs.Common.{[], ◌∷◌}
use Rattle.script_lines.proofs.CommandLemmas.{features_none, features_rest, features_more}
use Rattle.script_lines.proofs.parsing.features_behind.Goals as goal

pub returns-in_err-first : goal.returns-in_err-first
returns-in_err-first c = rw c.from_residual.ensures (λ x h. features_none c.args.tail.now x.0 (x.1 ∷ []) c.in_err-first.ensures h)

pub returns : goal.returns
returns c =
    features_more c.args.tail.now c.in_ok-first.rest.now c.in_ok-first.first (c.in_ok-feature_behind.field-0 ∷ []) c.in_ok-first.ensures c.in_ok-feature_behind.ensures

pub returns-in_err-feature_behind : goal.returns-in_err-feature_behind
returns-in_err-feature_behind c =
    rw c.from_residual-in_err-feature_behind.ensures
    (λ x h. c.in_err-feature_behind.ensures x.1 (features_rest c.args.tail.now c.in_ok-first.rest.now c.in_ok-first.first x.0 (x.1 ∷ []) c.in_ok-first.ensures h))
