-- What holds of every value of an object holds of the one that is found by its name.
use Rattle.kit_words.proofs.Common.{◌≡◌, ℕ, ◌≤◌, List, [], ◌∷◌, Bool, true, false, cond, length, subst, Option, Some}
use Rattle.kit_words.proofs.Common.{option_map, ◌==◌, AllByRecursion}
use Rattle.json_spans.specs.Common.{Node}
use Rattle.json_spans.proofs.Common.{members_short}
use Rattle.topo_outline.specs.Common.{Word, EntryNode, code, member, Entries, no_entry, entry, HasEntries, value_at}

module _ (P : Node → Type 0) where
  pub values_have : {ms : List (Node × Node)} {ts : List (List ℕ)} {es : List EntryNode} → Entries ms ts es → AllByRecursion (λ m. P m.1) ms → AllByRecursion (λ e. P e.value) es
  values_have no_entry h = tt
  values_have (entry is rest) h = (h.0, values_have rest h.1)

  first_or_later : (b : Bool) (e : EntryNode) (o : Option EntryNode) (v : Node) → P e.value → (option_map (λ m. m.value) o ≡ Some v → P v) → option_map (λ m. m.value) (cond b (Some e) o) ≡ Some v → P v
  first_or_later true e o v h later is = let same : e.value ≡ v = cc in subst P same h
  first_or_later false e o v h later is = later is

  pub value_has : (w : Word) (es : List EntryNode) (v : Node) → AllByRecursion (λ e. P e.value) es → value_at w es ≡ Some v → P v
  value_has w [] v h is = absurd cc
  value_has w (e ∷ es) v h is = first_or_later (code e.word == code w) e (member w es) v h.0 (value_has w es v h.1) is

-- the value of a member is no longer than its object
pub value_short : {n : Node} {es : List EntryNode} (w : Word) (v : Node) → HasEntries n es → value_at w es ≡ Some v → length v.bytes ≤ length n.bytes
value_short {n = n} {es = es} w v h is =
    value_has (λ u. length u.bytes ≤ length n.bytes) w es v (values_have (λ u. length u.bytes ≤ length n.bytes) h.entries (members_short h.object)) is
