use Rattle.kit_words.proofs.Common.{◌≡◌, ap, ◌∙◌, codes, rules, true}
use Rattle.clap.specs.Words.{new_rule, rule_of}
use Rattle.clap.specs.declared.builder.action.ArgAction.TheVariants.{Set}
use Rattle.border_cover.proofs.RuleLemmas.{is_global, with_action, with_need}
use Rattle.border_cover.proofs.command_line.map.Goals as goal

pub returns-clause-rule : goal.returns-clause-rule
returns-clause-rule c =
    let new_is : rule_of c.new.result ≡ new_rule (codes "MAP") = search rules in
    ap rule_of c.action.ensures ∙ ap (with_action Set) (ap rule_of c.required.ensures ∙ ap (with_need true) (ap rule_of c.help.ensures ∙ new_is))

pub returns-clause-local : goal.returns-clause-local
returns-clause-local c =
    ap is_global c.action.ensures ∙ (ap is_global c.required.ensures ∙ (ap is_global c.help.ensures ∙ c.new.ensures.optional.1))
