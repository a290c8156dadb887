use Rattle.kit_words.proofs.Common.{rules, to_z-of_z, false≢true}
use Rattle.script_lines.proofs.WordLemmas.{no_place_behind, place_numbers, range_along}
use Rattle.script_lines.proofs.words.spaced_position.Goals as goal

pub returns-in_err-y : goal.returns-in_err-y
returns-in_err-y c =
    rw c.from_residual-in_err-y.ensures
    (λ p rest s. no_place_behind c.args.bytes.now c.in_ok-x.behind_x.now rest c.in_ok-x.x p c.in_ok-x.ensures c.in_err-y.ensures s)

pub returns-in_err-new : goal.returns-in_err-new
returns-in_err-new c =
    rw c.from_residual-in_err-new.ensures
    (λ p rest s.
    false≢true (c.in_err-new.ensures.exact.1 (range_along _ _ c.in_ok-x.x c.in_ok-y.y p (search (rules, to_z-of_z)) (search (rules, to_z-of_z))
    (place_numbers c.args.bytes.now c.in_ok-x.behind_x.now rest c.in_ok-y.rest.now c.in_ok-x.x c.in_ok-y.y p c.in_ok-x.ensures c.in_ok-y.ensures s) s.range)))
