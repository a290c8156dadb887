use Rattle.kit_words.proofs.Common.{◌≡◌, ap, ◌∙◌, codes, rules}
use Rattle.clap.specs.Words.{new_rule, rule_of}
use Rattle.clap.specs.declared.builder.action.ArgAction.TheVariants.{Append}
use Rattle.border_cover.proofs.RuleLemmas.{is_global, long_is, with_action, with_names}
use Rattle.border_cover.proofs.command_line.layer.Goals as goal

pub returns-clause-rule : goal.returns-clause-rule
returns-clause-rule c =
    let new_is : rule_of c.new.result ≡ new_rule (codes "layer") = search rules in
    ap rule_of c.action.ensures ∙ ap (with_action Append)
    (ap rule_of c.help.ensures ∙ (ap rule_of c.value_name.ensures ∙ ap (with_names 1)
    (long_is c.new.result c.long.result _ (new_rule (codes "layer")) (codes "layer") c.long.ensures (search rules) new_is)))

pub returns-clause-local : goal.returns-clause-local
returns-clause-local c =
    ap is_global c.action.ensures ∙ (ap is_global c.help.ensures
    ∙ (ap is_global c.value_name.ensures ∙ (ap is_global c.long.ensures ∙ c.new.ensures.optional.1)))
