use Rattle.kit_words.proofs.Common.{sym, ◌∙◌}
use Rattle.script_lines.proofs.WordLemmas.{wide_utf8, wide_parses, wide_not_written}
use Rattle.script_lines.proofs.words.wide_number.Goals as goal

pub returns-in_default : goal.returns-in_default
returns-in_default c = λ n h e. c.in_default.ensures.cases.0 (wide_utf8 n c.args.word.now h e)

pub returns-in_default-parse : goal.returns-in_default-parse
returns-in_default-parse c = λ n h e. wide_parses n c.in-Ok.text.now h (c.in-Ok.ensures.cases.0 ∙ e) c.in_default-parse.ensures.value.0

pub returns-else-is_written : goal.returns-else-is_written
returns-else-is_written c = λ n h e.
    wide_not_written n c.in-Ok-parse.number c.args.word.now c.in-Ok.text.now h e c.in-Ok.ensures.cases.0 c.in-Ok-parse.ensures.value.0
    (sym c.is_written.ensures ∙ c.if-is_written.false)
