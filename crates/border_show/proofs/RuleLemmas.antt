-- What each setting of an argument changes of what a parse reads of it.
use Rattle.kit_words.proofs.Common.{◌≡◌, ◌&&◌, ◌∙◌, ap, ap₂, refl, Bool, true, false, not, false≢true, ℕ, List, Option, Some, None}
use Rattle.kit_words.proofs.Common.{IsSomeAnd, Bor, is_some, length}
use Rattle.clap.specs.Walk.{is_empty, is_simple_arg}
use Rattle.clap.specs.Words.{Rule, Text, new_rule, rule_of}
use Rattle.clap.specs.declared.builder.action.ArgAction.{ArgAction}
use Rattle.clap.specs.declared.builder.arg.Arg.{Arg}
use Rattle.clap.specs.declared.builder.range.ValueRange.{ValueRange}
use Rattle.clap.specs.declared.builder.texts.Texts.TheVariants.{Many}

-- the help changes nothing of it
abbrev pub with_action : ArgAction → Rule → Rule
with_action action r = record r { action = Some action }

abbrev pub with_need : Bool → Rule → Rule
with_need needed r = record r { required = needed }

abbrev pub with_names : ℕ → Rule → Rule
with_names count r = record r { value_names = count }

abbrev pub is_global : Arg → Bool
is_global a = a.global

pub long_is : (old new : Arg) (name : Bor Text) (r : Rule) (text : Text) → new ≡ record old { long = Some name } → name.now ≡ text → rule_of old ≡ r
    → rule_of new ≡ record r { long = Some text }
long_is old new name r text set is old_is =
    ap rule_of set ∙ ap₂ (λ (x : Rule) (t : Text). record x { long = Some t }) old_is is

pub names_is : (old new : Arg) (names : Bor (List (Bor Text))) (r : Rule) (count : ℕ) → new ≡ record old { val_names = Many names } → length names.now ≡ count → rule_of old ≡ r
    → rule_of new ≡ record r { value_names = count }
names_is old new names r count set is old_is =
    ap rule_of set ∙ ap₂ (λ (x : Rule) (n : ℕ). record x { value_names = n }) old_is is

-- the last factor of a product that is true is exchanged
last_of_seven : (a b c d e f y z v : Bool) → a && (b && (c && (d && (e && (f && y))))) ≡ true → (y ≡ true → z ≡ v)
    → a && (b && (c && (d && (e && (f && z))))) ≡ v
last_of_seven true true true true true true y z v all rest = rest all
last_of_seven true true true true true false y z v all rest = absurd (false≢true all)
last_of_seven true true true true false f y z v all rest = absurd (false≢true all)
last_of_seven true true true false e f y z v all rest = absurd (false≢true all)
last_of_seven true true false d e f y z v all rest = absurd (false≢true all)
last_of_seven true false c d e f y z v all rest = absurd (false≢true all)
last_of_seven false b c d e f y z v all rest = absurd (false≢true all)

exchanged_for : (signed y : Bool) → y ≡ true → not signed && y ≡ not signed
exchanged_for true y rest = refl
exchanged_for false y rest = rest

exchanged : (n signed y : Bool) → not n && y ≡ true → not signed && y ≡ not signed
exchanged true signed y all = absurd (false≢true all)
exchanged false signed y all = exchanged_for signed y all

-- an argument of which negative numbers may be values is not simple any more
signed_is : (a : Arg) (signed : Bool) → is_simple_arg a ≡ true → is_simple_arg (record a { allow_negative_numbers = signed }) ≡ not signed
signed_is a signed simple =
    let rest : Bool = not a.require_equals && (not a.last && not a.global) in
    last_of_seven (is_empty a.overrides.items) (is_empty a.default_vals_ifs.items) (is_empty a.groups.items) (not (is_some a.val_delim))
    (not (is_some a.terminator)) (not a.allow_hyphen_values) (not a.allow_negative_numbers && rest) (not signed && rest) (not signed) simple
    (exchanged a.allow_negative_numbers signed rest)

abbrev is_simple_rule : Rule → Bool
is_simple_rule r = r.is_simple

pub signed_rule : (old new : Arg) (signed : Bool) (id : Text) → new ≡ record old { allow_negative_numbers = signed } → rule_of old ≡ new_rule id
    → rule_of new ≡ record (new_rule id) { is_simple = not signed }
signed_rule old new signed id set is =
    ap rule_of set ∙ ap₂ (λ (x : Rule) (b : Bool). record x { is_simple = b }) is (signed_is old signed (ap is_simple_rule is))

-- an option of which a fact says what it has
some_is : {X : Type 0} (o : Option X) (x : X) → IsSomeAnd o (λ y. y ≡ x) → o ≡ Some x
some_is (Some y) x is = ap (λ z. Some z) is
some_is None x is = absurd is

pub range_is : (old new : Arg) (range : ValueRange) (r : Rule) → new ≡ record old { num_vals = new.num_vals } → IsSomeAnd new.num_vals (λ y. y ≡ range) → rule_of old ≡ r
    → rule_of new ≡ record r { range = Some range }
range_is old new range r set is old_is =
    ap rule_of set ∙ ap₂ (λ (x : Rule) (o : Option ValueRange). record x { range = o }) old_is (some_is new.num_vals range is)
