use Rattle.kit_words.proofs.Common.{ap, ◌∙◌, refl}
use Rattle.clap.specs.Words.{new_rule, rule_of}
use Rattle.clap.specs.declared.builder.action.ArgAction.TheVariants.{Set}
use Rattle.border_cover.proofs.RuleLemmas.{is_global, long_is, with_action, with_names}
use Rattle.border_cover.proofs.command_line.option.Goals as goal

pub returns-clause-rule : goal.returns-clause-rule
returns-clause-rule c =
    ap rule_of c.action.ensures ∙ ap (with_action Set)
    (ap rule_of c.help.ensures ∙ (ap rule_of c.value_name.ensures ∙ ap (with_names 1)
    (long_is c.new.result c.long.result c.args.name (new_rule c.args.name.now) c.args.name.now c.long.ensures refl c.new.ensures.rule)))

pub returns-clause-local : goal.returns-clause-local
returns-clause-local c =
    ap is_global c.action.ensures ∙ (ap is_global c.help.ensures
    ∙ (ap is_global c.value_name.ensures ∙ (ap is_global c.long.ensures ∙ c.new.ensures.optional.1)))
