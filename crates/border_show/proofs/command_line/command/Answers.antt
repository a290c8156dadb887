use Rattle.kit_words.proofs.Common.{◌≡◌, ap, ap₂, ◌∙◌, codes, false, rules, true}
use Rattle.clap.specs.Simple.{app_of_fields}
use Rattle.clap.specs.Words.{Text, app_of, new_app, rule_of, with_rule}
use Rattle.program_ends.specs.Common.{with_version}
use Rattle.border_show.specs.Asked.{option_rule, positional_rule}
use Rattle.border_show.proofs.command_line.command.Goals as goal

pub returns : goal.returns
returns c =
    let map_is : rule_of c.positional.result ≡ positional_rule (codes "MAP") true =
    c.positional.ensures.rule ∙ ap (λ (name : Text). positional_rule name true) (search rules) in
    let after_is : rule_of c.positional-2.result ≡ positional_rule (codes "AFTER") false =
    c.positional-2.ensures.rule ∙ ap (λ (name : Text). positional_rule name false) (search rules) in
    let out_is : rule_of c.option.result ≡ option_rule (codes "out") true =
    c.option.ensures.rule ∙ ap (λ (name : Text). option_rule name true) (search rules) in
    let feature_is : rule_of c.option-2.result ≡ option_rule (codes "feature") false =
    c.option-2.ensures.rule ∙ ap (λ (name : Text). option_rule name false) (search rules) in
    let new_is : app_of c.new.result ≡ new_app (codes "border_show") = search rules in
    let about_is : app_of c.about.result ≡ new_app (codes "border_show") = ap app_of_fields c.about.ensures ∙ new_is in
    let version_is : app_of c.version.result ≡ with_version (new_app (codes "border_show")) =
    ap app_of_fields c.version.ensures ∙ ap with_version about_is in
    let told_is : app_of c.after_help.result ≡ with_version (new_app (codes "border_show")) =
    ap app_of_fields c.after_help.ensures ∙ version_is in
    c.in_ok-command.ensures.shape c.flag.ensures.local
    ∙ ap₂ with_rule (c.in_ok-arg-5.ensures.shape c.option-2.ensures.local
    ∙ ap₂ with_rule (c.in_ok-arg-4.ensures.shape c.square.ensures.local
    ∙ ap₂ with_rule (c.in_ok-arg-3.ensures.shape c.option.ensures.local
    ∙ ap₂ with_rule (c.in_ok-arg-2.ensures.shape c.positional-2.ensures.local
    ∙ ap₂ with_rule (c.in_ok-arg.ensures.shape c.positional.ensures.local ∙ ap₂ with_rule told_is map_is)
    after_is) out_is) c.square.ensures.rule) feature_is) c.flag.ensures.rule
