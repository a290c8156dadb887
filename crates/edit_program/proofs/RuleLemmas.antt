-- What each setting of an argument changes of what a parse reads; the help changes nothing of it.
use Rattle.kit_words.proofs.Common.{◌≡◌, Bool, true, ap, ◌∙◌, ℕ, List, Some, Bor}
use Rattle.clap.specs.Words.{Rule, rule_of}
use Rattle.clap.specs.declared.builder.action.ArgAction.TheVariants.{Set, SetTrue}
use Rattle.clap.specs.declared.builder.arg.Arg.{Arg}

abbrev pub taken : Rule → Rule
taken r = record r { action = Some Set }

abbrev pub switched : Rule → Rule
switched r = record r { action = Some SetTrue }

abbrev pub wanted : Rule → Rule
wanted r = record r { required = true }

abbrev pub named : Rule → Rule
named r = record r { value_names = 1 }

abbrev pub is_global : Arg → Bool
is_global a = a.global

pub long_is : (old new : Arg) (name : Bor (List ℕ)) (r : Rule) → new ≡ record old { long = Some name } → rule_of old ≡ r
    → rule_of new ≡ record r { long = Some name.now }
long_is old new name r set old_is = ap rule_of set ∙ ap (λ (x : Rule). record x { long = Some name.now }) old_is
