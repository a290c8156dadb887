use Rattle.kit_words.proofs.Common.{◌≡◌, ap, ◌∙◌, codes, rules}
use Rattle.clap.specs.Words.{new_rule, rule_of}
use Rattle.clap.specs.declared.builder.action.ArgAction.TheVariants.{SetTrue}
use Rattle.border_export.proofs.RuleLemmas.{is_global, long_is, with_action}
use Rattle.border_export.proofs.command_line.flag.Goals as goal

pub returns-clause-rule : goal.returns-clause-rule
returns-clause-rule c =
    let new_is : rule_of c.new.result ≡ new_rule (codes "flatten") = search rules in
    ap rule_of c.action.ensures ∙ ap (with_action SetTrue) (ap rule_of c.help.ensures
    ∙ long_is c.new.result c.long.result _ (new_rule (codes "flatten")) (codes "flatten") c.long.ensures (search rules) new_is)

pub returns-clause-local : goal.returns-clause-local
returns-clause-local c =
    ap is_global c.action.ensures ∙ (ap is_global c.help.ensures ∙ (ap is_global c.long.ensures ∙ c.new.ensures.optional.1))
