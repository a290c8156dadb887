use Rattle.kit_words.proofs.Common.{ap, ◌∙◌}
use Rattle.clap.specs.Words.{rule_of}
use Rattle.clap.specs.declared.builder.action.ArgAction.TheVariants.{Set}
use Rattle.border_show.proofs.RuleLemmas.{is_global, with_action, with_need}
use Rattle.border_show.proofs.command_line.positional.Goals as goal

pub returns-clause-rule : goal.returns-clause-rule
returns-clause-rule c =
    ap rule_of c.action.ensures ∙ ap (with_action Set) (ap rule_of c.required.ensures ∙ ap (with_need c.args.is_needed)
    (ap rule_of c.help.ensures ∙ c.new.ensures.rule))

pub returns-clause-local : goal.returns-clause-local
returns-clause-local c =
    ap is_global c.action.ensures ∙ (ap is_global c.required.ensures ∙ (ap is_global c.help.ensures ∙ c.new.ensures.optional.1))
