use Rattle.kit_words.proofs.Common.{arith}
use Rattle.script_lines.proofs.CommandLemmas.{bound_none, bound_odd, bound_far}
use Rattle.script_lines.proofs.parsing.bound_behind.Goals as goal

pub returns-in_err-word : goal.returns-in_err-word
returns-in_err-word c = rw c.from_residual.ensures (λ z h. bound_none c.args.tail.now z c.in_err-word.ensures h)

pub returns-in_err-bound : goal.returns-in_err-bound
returns-in_err-bound c =
    rw c.from_residual-in_err-bound.ensures (λ z h. bound_odd c.args.tail.now c.in_ok-word.word.now z c.in_ok-word.ensures c.in_err-bound.ensures h)

pub returns-else-bound-le-MAX_BOUND : goal.returns-else-bound-le-MAX_BOUND
returns-else-bound-le-MAX_BOUND c = λ z h.
    bound_far c.args.tail.now c.in_ok-word.word.now c.in_ok-bound.bound z c.in_ok-word.ensures c.in_ok-bound.ensures.0 c.in_ok-bound.ensures.1 (λ k. absurd (omega arith)) h
