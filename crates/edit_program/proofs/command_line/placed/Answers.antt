use Rattle.kit_words.proofs.Common.{ap, ◌∙◌}
use Rattle.clap.specs.Words.{rule_of}
use Rattle.edit_program.proofs.RuleLemmas.{is_global, taken, wanted}
use Rattle.edit_program.proofs.command_line.placed.Goals as goal

pub returns-clause-rule : goal.returns-clause-rule
returns-clause-rule c =
    ap rule_of c.action.ensures ∙ ap taken (ap rule_of c.required.ensures ∙ ap wanted (ap rule_of c.help.ensures ∙ c.new.ensures.rule))

pub returns-clause-local : goal.returns-clause-local
returns-clause-local c =
    ap is_global c.action.ensures ∙ (ap is_global c.required.ensures ∙ (ap is_global c.help.ensures ∙ c.new.ensures.optional.1))
