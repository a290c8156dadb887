use Rattle.kit_words.proofs.Common.{◌≡◌, Bool, true, false, ap, ap₂, ◌∙◌, rules, Some, codes}
use Rattle.clap.specs.Simple.{app_of_fields}
use Rattle.clap.specs.Words.{Rule, app_of, new_app, new_rule, rule_of, with_rule}
use Rattle.clap.specs.declared.builder.action.ArgAction.TheVariants.{Set}
use Rattle.clap.specs.declared.builder.arg.Arg.{Arg}
use Rattle.border_mend.specs.Common.{map_argument, option_rule}
use Rattle.program_ends.specs.Common.{with_version}
use Rattle.border_mend.proofs.command_line.command.Goals as goal

-- what each setting changes of what a parse reads; the help changes nothing of it
abbrev taken : Rule → Rule
taken r = record r { action = Some Set }

abbrev wanted : Rule → Rule
wanted r = record r { required = true }

abbrev is_global : Arg → Bool
is_global a = a.global

pub returns : goal.returns
returns c =
    let map_new : rule_of c.new.result ≡ new_rule (codes "MAP") = search rules in
    let map_is : rule_of c.action-map.result ≡ map_argument =
    ap rule_of c.action-map.ensures ∙ ap taken (ap rule_of c.required.ensures ∙ ap wanted (ap rule_of c.help.ensures ∙ map_new)) in
    let map_local : c.action-map.result.global ≡ false =
    ap is_global c.action-map.ensures ∙ (ap is_global c.required.ensures ∙ (ap is_global c.help.ensures ∙ c.new.ensures.optional.1)) in
    let most_is : rule_of c.option.result ≡ option_rule (codes "most") = c.option.ensures.rule ∙ ap option_rule (search rules) in
    let places_is : rule_of c.option-2.result ≡ option_rule (codes "places") = c.option-2.ensures.rule ∙ ap option_rule (search rules) in
    let out_is : rule_of c.option-3.result ≡ option_rule (codes "out") = c.option-3.ensures.rule ∙ ap option_rule (search rules) in
    let digits_is : rule_of c.option-4.result ≡ option_rule (codes "digits") = c.option-4.ensures.rule ∙ ap option_rule (search rules) in
    let refine_is : rule_of c.option-5.result ≡ option_rule (codes "refine") = c.option-5.ensures.rule ∙ ap option_rule (search rules) in
    let drop_is : rule_of c.option-6.result ≡ option_rule (codes "drop") = c.option-6.ensures.rule ∙ ap option_rule (search rules) in
    let new_is : app_of c.new-2.result ≡ new_app (codes "border_mend") = search rules in
    let about_is : app_of c.about.result ≡ new_app (codes "border_mend") = ap app_of_fields c.about.ensures ∙ new_is in
    let version_is : app_of c.version.result ≡ with_version (new_app (codes "border_mend")) =
    ap app_of_fields c.version.ensures ∙ ap with_version about_is in
    let after_is : app_of c.after_help.result ≡ with_version (new_app (codes "border_mend")) =
    ap app_of_fields c.after_help.ensures ∙ version_is in
    c.in_ok-command.ensures.shape c.option-6.ensures.local
    ∙ ap₂ with_rule (c.in_ok-arg-6.ensures.shape c.option-5.ensures.local
    ∙ ap₂ with_rule (c.in_ok-arg-5.ensures.shape c.option-4.ensures.local
    ∙ ap₂ with_rule (c.in_ok-arg-4.ensures.shape c.option-3.ensures.local
    ∙ ap₂ with_rule (c.in_ok-arg-3.ensures.shape c.option-2.ensures.local
    ∙ ap₂ with_rule (c.in_ok-arg-2.ensures.shape c.option.ensures.local
    ∙ ap₂ with_rule (c.in_ok-arg.ensures.shape map_local ∙ ap₂ with_rule after_is map_is)
    most_is) places_is) out_is) digits_is) refine_is) drop_is
