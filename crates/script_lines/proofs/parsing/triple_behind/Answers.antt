use Rattle.kit_words.proofs.Common.{[], ◌∷◌}
use Rattle.script_lines.proofs.CommandLemmas.{positions_none, positions_rest, positions_more}
use Rattle.script_lines.proofs.parsing.triple_behind.Goals as goal

pub returns-in_default : goal.returns-in_default
returns-in_default c = λ x h. positions_none c.args.tail.now x.0 (x.1 ∷ x.2 ∷ []) c.in_default.ensures h

pub returns : goal.returns
returns c =
    positions_more c.args.tail.now c.in-Some.first.1.now c.in-Some.first.0 (c.in_ok-second.second ∷ c.in_ok-second.third ∷ []) c.in-Some.ensures c.in_ok-second.ensures

pub returns-in_err-second : goal.returns-in_err-second
returns-in_err-second c =
    rw c.from_residual.ensures
    (λ x h. c.in_err-second.ensures (x.1, x.2) (positions_rest c.args.tail.now c.in-Some.first.1.now c.in-Some.first.0 x.0 (x.1 ∷ x.2 ∷ []) c.in-Some.ensures h))
