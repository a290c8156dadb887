-- Places that are asked for, or not.
use Rattle.kit_words.proofs.Common.{◌≡◌, true, Bool, not, ap, ◌∙◌, sym, Option, Some, None, IfSome, is_some, false≢true}

-- where nothing is asked for, all that is asked for holds
pub none_holds : {X : Type 0} (o : Option X) (none : Bool) (P : X → Type 0) → is_some o ≡ not none → none ≡ true → IfSome o P
none_holds None none P e f = tt
none_holds (Some x) none P e f = absurd (false≢true (sym (e ∙ ap not f)))
