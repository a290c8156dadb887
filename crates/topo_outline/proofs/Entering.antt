-- The names of an object are tested in order exactly if no two stand for one text.
use Rattle.kit_words.proofs.Common.{◌≡◌, not, List, [], ◌∷◌, ◌++◌, ℕ, true, false, refl, sym, ◌∙◌, subst}
use Rattle.kit_words.proofs.Common.{nat_list_eq_equiv, Ok, Option, Some, None, list_any, IsDistinct, AllByRecursion}
use Rattle.kit_words.proofs.Common.{list_any-append, bytes_eq-Decides, AllPairs-from_IsDistinct}
use Rattle.kit_words.proofs.Common.{IsDistinct-from_AllPairs, or_parts, not-true}
use Rattle.std.proofs.Common.{bytes_eq}
use Rattle.json_spans.specs.Common.{Node, members, decoded}
use Rattle.json_spans.proofs.Common.{members_told}
use Rattle.topo_outline.specs.Common.{Fault, duplicate, demand, EntryNode, entry_of, named, name_text, text_from}
use Rattle.topo_outline.specs.Common.{unquoted, members_of, is_object, Entries, no_entry, entry, HasEntries}
use Rattle.topo_outline.specs.Common.{NestsAtMost}
use Rattle.topo_outline.proofs.Levels.{object_here}
use Rattle.topo_outline.proofs.Steps.{step, demanded, same_ok}

-- none of the texts is one of those seen
abbrev Unseen : List (List ℕ) → List (List ℕ) → Type 0
Unseen seen ts = AllByRecursion (λ t. list_any (bytes_eq t) seen ≡ false) ts

-- none of the texts is this one
abbrev Without : List ℕ → List (List ℕ) → Type 0
Without t ts = AllByRecursion (λ u. bytes_eq t u ≡ false) ts

-- ---- one more text seen

other_order : (t u : List ℕ) → bytes_eq u t ≡ false → bytes_eq t u ≡ false
other_order t u h = nat_list_eq_equiv.symm t u ∙ h

apart : (seen : List (List ℕ)) (t u : List ℕ) → list_any (bytes_eq u) (seen ++ t ∷ []) ≡ false → (list_any (bytes_eq u) seen ≡ false) × (bytes_eq t u ≡ false)
apart seen t u h =
    let (before, now) = or_parts (list_any (bytes_eq u) seen) (list_any (bytes_eq u) (t ∷ [])) (sym (list_any-append (bytes_eq u) seen (t ∷ [])) ∙ h) in
    (before, other_order t u (or_parts (bytes_eq u t) false now).0)

joined : (seen : List (List ℕ)) (t u : List ℕ) → list_any (bytes_eq u) seen ≡ false → bytes_eq t u ≡ false → list_any (bytes_eq u) (seen ++ t ∷ []) ≡ false
joined seen t u before now = rw (list_any-append (bytes_eq u) seen (t ∷ []), before, other_order u t now) refl

all_apart : (seen : List (List ℕ)) (t : List ℕ) (us : List (List ℕ)) → Unseen (seen ++ t ∷ []) us → Unseen seen us × Without t us
all_apart seen t [] h = (tt, tt)
all_apart seen t (u ∷ us) h =
    let (before, now) = apart seen t u h.0 in
    let (befores, nows) = all_apart seen t us h.1 in
    ((before, befores), (now, nows))

all_joined : (seen : List (List ℕ)) (t : List ℕ) (us : List (List ℕ)) → Unseen seen us → Without t us → Unseen (seen ++ t ∷ []) us
all_joined seen t [] h k = tt
all_joined seen t (u ∷ us) h k = (joined seen t u h.0 k.0, all_joined seen t us h.1 k.1)

-- ---- the members

record Named (seen : List (List ℕ)) (ms : List (Node × Node)) (es : List EntryNode) : Type 0 where
  names : List (List ℕ)
  entries : Entries ms names es
  unseen : Unseen seen names
  distinct : IsDistinct bytes_eq names

pub text_is : (f : Fault) (o : Option (List ℕ)) {t : List ℕ} → text_from f o ≡ Ok t → o ≡ Some t
text_is f None h = absurd cc
text_is f (Some u) h = cc

one_more : {seen : List (List ℕ)} {ms : List (Node × Node)} {rest : List EntryNode} (m : Node × Node) (t : List ℕ) → decoded m.0.bytes ≡ Some t → list_any (bytes_eq t) seen ≡ false → Named (seen ++ t ∷ []) ms rest → Named seen (m ∷ ms) (entry_of t m ∷ rest)
unfolding IsDistinct
one_more {seen = seen} m t is new n =
    let (befores, nows) = all_apart seen t n.names n.unseen in
    record { names = t ∷ n.names; entries = entry is n.entries; unseen = (new, befores); distinct = (nows, n.distinct) }

named_means : (seen : List (List ℕ)) (ms : List (Node × Node)) (es : List EntryNode) → named seen ms ≡ Ok es → Named seen ms es
unfolding named IsDistinct
named_means seen [] es h = rw (← same_ok h) (record { names = []; entries = no_entry; unseen = tt; distinct = tt })
named_means seen (m ∷ ms) es h =
    step (name_text m.0) _ h λ t is tested.
    step (demand (not (list_any (bytes_eq t) seen)) (duplicate (unquoted m.0.bytes)) (named (seen ++ t ∷ []) ms)) _ tested λ rest left last.
    let (new, after) = demanded _ _ _ left in
    rw (← same_ok last) (one_more m t (text_is _ _ is) (not-true _ new) (named_means (seen ++ t ∷ []) ms rest after))

named_gives : {ms : List (Node × Node)} {ts : List (List ℕ)} {es : List EntryNode} → Entries ms ts es → (seen : List (List ℕ)) → Unseen seen ts → IsDistinct bytes_eq ts → named seen ms ≡ Ok es
unfolding named IsDistinct
named_gives no_entry seen new d = refl
named_gives (entry {m = m} {t = t} {ts = ts} is rest) seen new d = rw (is, new.0, named_gives rest (seen ++ t ∷ []) (all_joined seen t ts new.1 d.0) d.1) refl

none_seen : (ts : List (List ℕ)) → Unseen [] ts
none_seen [] = tt
none_seen (t ∷ ts) = (refl, none_seen ts)

pub object_means : (k : ℕ) (n : Node) (es : List EntryNode) → NestsAtMost k n → is_object n ≡ true → members_of n ≡ Ok es → HasEntries n es
object_means k n es nests object h =
    let all = named_means [] (members n) es h in
    record { members = members n; names = all.names; object = object_here k n nests object; entries = all.entries; differ = AllPairs-from_IsDistinct bytes_eq-Decides all.names all.distinct }

pub object_gives : {n : Node} {es : List EntryNode} → HasEntries n es → members_of n ≡ Ok es
object_gives {es = es} o =
    subst (λ ms. named [] ms ≡ Ok es) (members_told o.object)
    (named_gives o.entries [] (none_seen o.names) (IsDistinct-from_AllPairs bytes_eq-Decides o.names o.differ))
