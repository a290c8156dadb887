use Rattle.kit_words.proofs.Common.{◌≡◌, Bool, ap, ◌∙◌, ℕ, List, Some, Bor}
use Rattle.clap.specs.Words.{Rule, new_rule, rule_of}
use Rattle.clap.specs.declared.builder.action.ArgAction.TheVariants.{Set}
use Rattle.clap.specs.declared.builder.arg.Arg.{Arg}
use Rattle.border_mend.proofs.command_line.option.Goals as goal

-- what each setting changes of what a parse reads; the help changes nothing of it
abbrev taken : Rule → Rule
taken r = record r { action = Some Set }

abbrev named : Rule → Rule
named r = record r { value_names = 1 }

abbrev is_global : Arg → Bool
is_global a = a.global

long_is : (old new : Arg) (name : Bor (List ℕ)) (r : Rule) → new ≡ record old { long = Some name } → rule_of old ≡ r
    → rule_of new ≡ record r { long = Some name.now }
long_is old new name r set old_is = ap rule_of set ∙ ap (λ (x : Rule). record x { long = Some name.now }) old_is

pub returns-clause-rule : goal.returns-clause-rule
returns-clause-rule c =
    ap rule_of c.action.ensures ∙ ap taken (ap rule_of c.help.ensures ∙ (ap rule_of c.value_name.ensures
    ∙ ap named (long_is c.new.result c.long.result c.args.name (new_rule c.args.name.now) c.long.ensures c.new.ensures.rule)))

pub returns-clause-local : goal.returns-clause-local
returns-clause-local c =
    ap is_global c.action.ensures ∙ (ap is_global c.help.ensures ∙ (ap is_global c.value_name.ensures
    ∙ (ap is_global c.long.ensures ∙ c.new.ensures.optional.1)))
