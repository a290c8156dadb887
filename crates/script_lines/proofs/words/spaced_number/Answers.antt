use Rattle.kit_words.proofs.Common.{rules, to_z-of_z}
use Rattle.script_lines.proofs.WordLemmas.{spaced_here, spaced_word_is}
use Rattle.script_lines.proofs.words.spaced_number.Goals as goal

pub returns : goal.returns
returns c =
    spaced_here c.args.bytes.now c.in_ok-tail.tail.now c.split_word.result.0.now c.split_word.result.1.now c.in_ok-number.field-0 _ (search (rules, to_z-of_z))
    c.in_ok-tail.ensures c.split_word.ensures.word c.split_word.ensures.rest c.in_ok-number.ensures

pub returns-in_err-number : goal.returns-in_err-number
returns-in_err-number c =
    rw c.from_residual-in_err-number.ensures
    (λ z rest s. c.in_err-number.ensures z s.fits (spaced_word_is c.args.bytes.now c.in_ok-tail.tail.now c.split_word.result.0.now rest z c.in_ok-tail.ensures c.split_word.ensures.word s))
