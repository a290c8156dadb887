-- What each setting of an argument changes of what a parse reads of it; the help changes nothing of it.
use Rattle.kit_words.proofs.Common.{◌≡◌, ◌∙◌, ap, ap₂, Bool, ℕ, Some, Bor}
use Rattle.clap.specs.Words.{Rule, Text, rule_of}
use Rattle.clap.specs.declared.builder.action.ArgAction.{ArgAction}
use Rattle.clap.specs.declared.builder.arg.Arg.{Arg}

abbrev pub with_action : ArgAction → Rule → Rule
with_action action r = record r { action = Some action }

abbrev pub with_need : Bool → Rule → Rule
with_need needed r = record r { required = needed }

abbrev pub with_names : ℕ → Rule → Rule
with_names count r = record r { value_names = count }

abbrev pub is_global : Arg → Bool
is_global a = a.global

pub long_is : (old new : Arg) (name : Bor Text) (r : Rule) (text : Text) → new ≡ record old { long = Some name } → name.now ≡ text → rule_of old ≡ r
    → rule_of new ≡ record r { long = Some text }
long_is old new name r text set is old_is =
    ap rule_of set ∙ ap₂ (λ (x : Rule) (t : Text). record x { long = Some t }) old_is is
