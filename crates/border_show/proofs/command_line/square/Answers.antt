use Rattle.kit_words.proofs.Common.{◌≡◌, ap, ◌∙◌, codes, rules}
use Rattle.clap.specs.Words.{new_rule, rule_of}
use Rattle.clap.specs.declared.builder.action.ArgAction.TheVariants.{Set}
use Rattle.clap.specs.declared.builder.range.ValueRange.{ValueRange}
use Rattle.border_show.proofs.RuleLemmas.{is_global, long_is, names_is, range_is, signed_rule, with_action}
use Rattle.border_show.proofs.command_line.square.Goals as goal

abbrev three : ValueRange
three = record { start_inclusive = 3; end_inclusive = 3 }

pub returns-clause-rule : goal.returns-clause-rule
returns-clause-rule c =
    let new_is : rule_of c.new.result ≡ new_rule (codes "at") = search rules in
    let signed = signed_rule c.new.result c.allow_negative_numbers.result c.args.is_signed (codes "at") c.allow_negative_numbers.ensures new_is in
    let long = long_is c.allow_negative_numbers.result c.long.result _ _ (codes "at") c.long.ensures (search rules) signed in
    let named = names_is c.long.result c.value_names.result _ _ 3 c.value_names.ensures (search rules) long in
    let ranged = range_is c.value_names.result c.num_args.result three _ c.num_args.ensures.0 c.num_args.ensures.1 named in
    ap rule_of c.action.ensures ∙ ap (with_action Set) (ap rule_of c.help.ensures ∙ ranged)

pub returns-clause-local : goal.returns-clause-local
returns-clause-local c =
    ap is_global c.action.ensures ∙ (ap is_global c.help.ensures ∙ (ap is_global c.num_args.ensures.0 ∙ (ap is_global c.value_names.ensures
    ∙ (ap is_global c.long.ensures ∙ (ap is_global c.allow_negative_numbers.ensures ∙ c.new.ensures.optional.1)))))
