use Rattle.kit_words.proofs.Common.{sym, ◌∙◌, rules, to_z-of_z}
use Rattle.script_lines.proofs.WordLemmas.{not_whole, not_written}
use Rattle.script_lines.proofs.words.number.Goals as goal

pub returns-in_default : goal.returns-in_default
returns-in_default c = λ z f e. not_whole z c.args.word.now c.in_default.field-0 f e c.in_default.ensures.value

pub returns-else-is_written : goal.returns-else-is_written
returns-else-is_written c = λ z f e.
    not_written z c.in-Ok.number _ c.args.word.now f e c.in-Ok.ensures.value (search (rules, to_z-of_z))
    (sym c.is_written.ensures ∙ c.if-is_written.false)
