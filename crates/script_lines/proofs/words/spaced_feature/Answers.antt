use Rattle.kit_words.proofs.Common.{pos, rules, to_z-of_z}
use Rattle.script_lines.proofs.WordLemmas.{feature_spaced, feature_huge, fits_along}
use Rattle.script_lines.proofs.words.spaced_feature.Goals as goal

pub returns-in_err-number : goal.returns-in_err-number
returns-in_err-number c = rw c.from_residual.ensures (λ n rest f. c.in_err-number.ensures (pos n) rest (feature_spaced c.args.bytes.now rest n f))

pub returns-in-Err : goal.returns-in-Err
returns-in-Err c = λ n rest f.
    feature_huge c.args.bytes.now c.in_ok-number.rest.now rest c.in_ok-number.number n c.in_ok-number.ensures
    (λ m e small. c.in-Err.ensures (fits_along m _ c.in_ok-number.number (search (rules, to_z-of_z)) e small)) f
