-- What a kept text means does not depend on the place where it stands.
use Rattle.kit_words.proofs.Common.{◌≡◌, ℕ, ◌+◌, List, [], ◌∷◌, map, length, refl, sym, ap, ap₂, ◌∙◌, subst, codes, ◌⊎◌}
use Rattle.kit_words.proofs.Common.{inl, inr, Option, Some, None, option_map, AllZip}
use Rattle.ring_machine.specs.Common.{Text, Member}
use Rattle.json_spans.specs.Common.{Node, IsText, IsNumber, IsValue, Padded, padded, Pair, pair, Parted, last_part}
use Rattle.json_spans.specs.Common.{next_part, Bracketed, no_part, parts, IsListOf, IsObjectOf, decoded}
use Rattle.topo_outline.specs.declared.words.Word.{Word}
use Rattle.topo_outline.specs.declared.words.Word.TheVariants as word
use Rattle.topo_outline.specs.Common.{EntryNode, entry_of, code, Piece, text, Entries, no_entry, entry, HasEntries}
use Rattle.topo_outline.specs.Common.{value_at, HasType, AreTwoNumbers, IsTransform, transform, IsGeometry, point}
use Rattle.topo_outline.specs.Common.{multi_point, null_geometry, polygon, multi_polygon, collection, null_transform}
use Rattle.topo_outline.specs.Common.{no_transform, IsKeptGeometry, IsKeptTransform}
use Rattle.map_text.proofs.GrammarLists.{bytes_of}
use Rattle.map_text.proofs.GrammarObjects.{as_member}
use Rattle.map_text.proofs.MembersSeen.{Seen, seen, all_seen, Says, entries_of, are_entries, entries_seen, seen_value, value_seen}
use Rattle.map_text.proofs.ReadingLists.{two}

-- ---- parts at two places

-- the same part at another place: what is seen of it is the same
abbrev Moves : {X B : Type 0} → (ℕ → List ℕ → X → Type 0) → (X → B) → Type 0
Moves {X} P f = (place other : ℕ) (part : List ℕ) (x : X) → P place part x → (y : X) × P other part y × (f x ≡ f y)

padded_moves : (A : List ℕ → Type 0) → Moves (Padded A) bytes_of
padded_moves A place other part x (padded {front = front} {bytes = v} a h b) = (record { at_byte = other + length front; bytes = v }, padded a h b, refl)

pair_moves : (n : ℕ) → Moves (Pair n) as_member
pair_moves n place other part x (pair {front = front} {name = name} {value = value} a b) =
    let first = padded_moves IsText place other front name a in
    let second = padded_moves (IsValue n) (place + length front + 1) (other + length front + 1) _ value b in
    ((first.0, second.0), pair first.1 second.1, ap₂ (λ (s t : Text). let m : Member = record { name = s; value = t } in m) first.2 second.2)

module _ {X B : Type 0} (P : ℕ → List ℕ → X → Type 0) (f : X → B) (moves : Moves P f) where
  parted_moves : {close place : ℕ} {bytes : List ℕ} {xs : List X} (other : ℕ) → Parted P close place bytes xs → (ys : List X) × Parted P close other bytes ys × (map f xs ≡ map f ys)
  parted_moves other (last_part {place = place} {part = part} {x = x} p) =
      let there = moves place other part x p in
      (there.0 ∷ [], last_part there.1, ap (λ (b : B). let bs : List B = b ∷ [] in bs) there.2)
  parted_moves other (next_part {place = place} {part = part} {x = x} p q) =
      let there = moves place other part x p in
      let rest = parted_moves (other + length part + 1) q in
      (there.0 ∷ rest.0, next_part there.1 rest.1, ap₂ (λ (b : B) (bs : List B). b ∷ bs) there.2 rest.2)

  bracketed_moves : {start close place : ℕ} {bytes : List ℕ} {xs : List X} (other : ℕ) → Bracketed P start close place bytes xs → (ys : List X) × Bracketed P start close other bytes ys × (map f xs ≡ map f ys)
  bracketed_moves other (no_part s) = ([], no_part s, refl)
  bracketed_moves other (parts q) = let there = parted_moves (other + 1) q in (there.0, parts there.1, there.2)

list_moves : (m n : Node) {ns : List Node} → m.bytes ≡ n.bytes → IsListOf m ns → (ks : List Node) × IsListOf n ks × (map bytes_of ns ≡ map bytes_of ks)
list_moves m n e h =
    let there = bracketed_moves (Padded (IsValue h.0)) bytes_of (padded_moves (IsValue h.0)) n.at_byte h.1 in
    (there.0, (h.0, subst (λ z. Bracketed (Padded (IsValue h.0)) 91 93 n.at_byte z there.0) e there.1), there.2)

object_moves : (m n : Node) {ms : List (Node × Node)} → m.bytes ≡ n.bytes → IsObjectOf m ms → (ks : List (Node × Node)) × IsObjectOf n ks × (map as_member ms ≡ map as_member ks)
object_moves m n e h =
    let there = bracketed_moves (Pair h.0) as_member (pair_moves h.0) n.at_byte h.1 in
    (there.0, (h.0, subst (λ z. Bracketed (Pair h.0) 123 125 n.at_byte z there.0) e there.1), there.2)

-- ---- entries at two places

says_all : {ms : List (Node × Node)} {ts : List (List ℕ)} {es : List EntryNode} → Entries ms ts es → AllZip Says (map as_member ms) ts
says_all no_entry = tt
says_all (entry e r) = (e, says_all r)

seen_all : {ms : List (Node × Node)} {ts : List (List ℕ)} {es : List EntryNode} → Entries ms ts es → map seen es ≡ all_seen ts (map as_member ms)
seen_all no_entry = refl
seen_all (entry {m = m} {t = t} e r) = ap (λ (z : List Seen). seen (entry_of t m) ∷ z) (seen_all r)

-- the same members, seen elsewhere
pub record IsElsewhere (n : Node) (es : List EntryNode) : Type 0 where
  pub entries : List EntryNode
  pub has : HasEntries n entries
  pub same : map seen es ≡ map seen entries

pub elsewhere : (m n : Node) {es : List EntryNode} → m.bytes ≡ n.bytes → HasEntries m es → IsElsewhere n es
elsewhere m n {es = es} e h =
    let there = object_moves m n e h.object in
    let says : AllZip Says (map as_member there.0) h.names = subst (λ z. AllZip Says z h.names) there.2 (says_all h.entries) in
    record {
      entries = entries_of h.names there.0;
      has = record { members = there.0; names = h.names; object = there.1; entries = are_entries h.names there.0 says; differ = h.differ };
      same = seen_all h.entries ∙ ap (λ (z : List Member). all_seen h.names z) there.2 ∙ sym (entries_seen h.names there.0);
    }

pub node_there : (o : Option Node) (t : Text) → option_map bytes_of o ≡ Some t → (n : Node) × (o ≡ Some n) × (n.bytes ≡ t)
node_there None t e = absurd cc
node_there (Some n) t e = let same : n.bytes ≡ t = cc in (n, refl, same)

value_elsewhere : (w : Word) (es fs : List EntryNode) (n : Node) → map seen es ≡ map seen fs → value_at w es ≡ Some n → (m : Node) × (value_at w fs ≡ Some m) × (m.bytes ≡ n.bytes)
value_elsewhere w es fs n same e =
    node_there (value_at w fs) n.bytes (value_seen w fs ∙ ap (λ (z : List Seen). seen_value (code w) z) (sym same) ∙ sym (value_seen w es) ∙ ap (λ (o : Option Node). option_map bytes_of o) e)

type_elsewhere : (es fs : List EntryNode) (t : List ℕ) → map seen es ≡ map seen fs → HasType es t → HasType fs t
type_elsewhere es fs t same h =
    let found = value_elsewhere word.Type es fs h.value same h.there in
    record { value = found.0; there = found.1; string = subst IsText (sym found.2) h.string; says = ap decoded found.2 ∙ h.says }

-- ---- a point

-- an object whose type is one of the two
abbrev IsPointAt : Node → Type 0
IsPointAt n = (es : List EntryNode) × HasEntries n es × (HasType es (codes "Point") ⊎ HasType es (codes "MultiPoint"))

point_parts : {n : Node} {ps : List Piece} (t : Text) → IsGeometry n ps → ps ≡ text t ∷ [] → IsPointAt n
point_parts t (point o h) e = (_, o, inl h)
point_parts t (multi_point o h) e = (_, o, inr h)
point_parts t (null_geometry a b c) e = absurd cc
point_parts t (polygon a b c d) e = absurd cc
point_parts t (multi_polygon a b c d) e = absurd cc
point_parts t (collection a b c d f) e = absurd cc

point_made : (m n : Node) → m.bytes ≡ n.bytes → IsPointAt m → IsGeometry n (text n.bytes ∷ [])
point_made m n e (es, o, inl h) = let there = elsewhere m n e o in point there.has (type_elsewhere es there.entries (codes "Point") there.same h)
point_made m n e (es, o, inr h) = let there = elsewhere m n e o in multi_point there.has (type_elsewhere es there.entries (codes "MultiPoint") there.same h)

-- a kept geometry is one wherever its text stands
pub kept_geometry : (t : Text) (n : Node) → IsKeptGeometry t → n.bytes ≡ t → IsGeometry n (text t ∷ [])
kept_geometry t n k e =
    subst (λ z. IsGeometry n (text z ∷ [])) e (point_made (record { at_byte = k.place; bytes = t }) n (sym e) (point_parts t k.geometry refl))

-- ---- a transform

numbers_elsewhere : (m n : Node) → m.bytes ≡ n.bytes → AreTwoNumbers m → AreTwoNumbers n
numbers_elsewhere m n e h =
    let there = list_moves m n e h.two in
    let found = two there.0 h.x.bytes h.y.bytes (sym there.2) in
    record {
      x = found.first;
      y = found.second;
      two = subst (λ ns. IsListOf n ns) found.are there.1;
      x_number = subst IsNumber (sym found.first_is) h.x_number;
      y_number = subst IsNumber (sym found.second_is) h.y_number;
    }

transform_made : {o : Option Node} {v : Option Text} (m n : Node) (t : Text) → m.bytes ≡ n.bytes → o ≡ Some m → v ≡ Some t → IsTransform o v → IsTransform (Some n) (Some n.bytes)
transform_made m n t e p q no_transform = absurd cc
transform_made m n t e p q (null_transform k) = absurd cc
transform_made m n t e p q (transform {n = k} {scale = s} {translate = r} {es = es} h at_scale scales at_translate translates) =
    let same : k ≡ m = cc in
    let there = elsewhere k n (ap bytes_of same ∙ e) h in
    let scale = value_elsewhere word.Scale es there.entries s there.same at_scale in
    let translate = value_elsewhere word.Translate es there.entries r there.same at_translate in
    transform there.has scale.1 (numbers_elsewhere s scale.0 (sym scale.2) scales) translate.1 (numbers_elsewhere r translate.0 (sym translate.2) translates)

-- a kept transform is one wherever its text stands
pub kept_transform : (t : Text) (n : Node) → IsKeptTransform t → n.bytes ≡ t → IsTransform (Some n) (Some t)
kept_transform t n k e =
    subst (λ z. IsTransform (Some n) (Some z)) e (transform_made (record { at_byte = k.place; bytes = t }) n t (sym e) refl refl k.transform)
