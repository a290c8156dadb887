use Rattle.kit_words.proofs.Common.{ap, ◌∙◌}
use Rattle.clap.specs.Words.{new_rule, rule_of}
use Rattle.edit_program.proofs.RuleLemmas.{is_global, long_is, named, taken}
use Rattle.edit_program.proofs.command_line.option.Goals as goal

pub returns-clause-rule : goal.returns-clause-rule
returns-clause-rule c =
    ap rule_of c.action.ensures ∙ ap taken (ap rule_of c.help.ensures ∙ (ap rule_of c.value_name.ensures
    ∙ ap named (long_is c.new.result c.long.result c.args.name (new_rule c.args.name.now) c.long.ensures c.new.ensures.rule)))

pub returns-clause-local : goal.returns-clause-local
returns-clause-local c =
    ap is_global c.action.ensures ∙ (ap is_global c.help.ensures ∙ (ap is_global c.value_name.ensures
    ∙ (ap is_global c.long.ensures ∙ c.new.ensures.optional.1)))
