-- A list and an object of the grammar, put together from what stands inside.
use Rattle.kit_words.proofs.Common.{◌≡◌, ℕ, zero, suc, ◌+◌, List, [], ◌∷◌, ◌++◌, length, true, refl, sym, ap, subst}
use Rattle.kit_words.proofs.Common.{◌∙◌, arith, All, nat_tests, append-nil, AllByRecursion, All-from_recursion}
use Rattle.std.proofs.lemmas.List.{append_assoc}
use Rattle.json_spans.specs.Common.{is_nonzero, kind_from, kind_of, kind_by, IsKind, trimmed, items, members, Space}
use Rattle.json_spans.specs.Common.{Number, minus, plain_number, zero_first, digit_first, Value, null, yes, no, number}
use Rattle.json_spans.specs.Common.{text, list, object, Items, no_item, some_items, SomeItems, item, MoreItems}
use Rattle.json_spans.specs.Common.{list_end, next_item, Members, no_member, some_members, SomeMembers, name, member}
use Rattle.json_spans.specs.Common.{MoreMembers, object_end, next_member, Json, json, IsValue, IsText, quoted, Padded}
use Rattle.json_spans.specs.Common.{padded, Pair, pair, Parted, last_part, next_part, Bracketed, no_part, parts, ListOf}
use Rattle.json_spans.specs.Common.{ObjectOf, Below, HasItems, HasMembers, ItemsAreValues, MembersAreValues}
use Rattle.json_spans.specs.Parts.{Node}
use Rattle.json_spans.specs.declared.kinds.Kind.TheVariants as kind
use Rattle.json_spans.proofs.Framing.{space_framed, chars_framed, value_framed, alone}
use Rattle.json_spans.proofs.Padding.{stands, value_solid, trimmed_is}
use Rattle.json_spans.proofs.Itemized.{only_items, only_members}

-- ---- parts

grouped : (a b c zs : List ℕ) {start xs ys : List ℕ} → start ≡ a ++ xs → xs ≡ b ++ ys → ys ≡ c ++ zs → start ≡ (a ++ (b ++ c)) ++ zs
grouped a b c zs e f g =
    let flat : a ++ (b ++ (c ++ zs)) ≡ (a ++ (b ++ c)) ++ zs = simp append_assoc in
    e ∙ ap (λ w. a ++ w) (f ∙ ap (λ w. b ++ w) g) ∙ flat

abbrev ItemParts : ℕ → ℕ → List ℕ → Type 0
ItemParts n place bytes = (is : List Node) × Parted (Padded (IsValue n)) 93 place bytes is

abbrev MemberParts : ℕ → ℕ → List ℕ → Type 0
MemberParts n place bytes = (ms : List (Node × Node)) × Parted (Pair n) 125 place bytes ms

mutual
  item_parts : {n : ℕ} {start xs : List ℕ} → Space start xs → SomeItems n xs [] → (place : ℕ) → ItemParts n place start
  item_parts {n = n} s (item v t m) place =
      let a = space_framed s in
      let b = value_framed v in
      let c = space_framed t in
      let part : Padded (IsValue n) place (a.bs ++ (b.bs ++ c.bs)) (record { at_byte = place + length a.bs; bytes = b.bs }) = padded (alone a) (alone b) (alone c) in
      subst (ItemParts n place) (sym (grouped a.bs b.bs c.bs _ a.is b.is c.is)) (more_item_parts m place part)

  more_item_parts : {n : ℕ} {xs part : List ℕ} {x : Node} → MoreItems n xs [] → (place : ℕ) → Padded (IsValue n) place part x → ItemParts n place (part ++ xs)
  more_item_parts {x = x} list_end place p = (x ∷ [], last_part p)
  more_item_parts {part = part} {x = x} (next_item s i) place p =
      let rest = item_parts s i (place + length part + 1) in
      (x ∷ rest.0, next_part p rest.1)

mutual
  member_parts : {n : ℕ} {start xs : List ℕ} → Space start xs → SomeMembers n xs [] → (place : ℕ) → MemberParts n place start
  member_parts {n = n} s (name k (member t u v w m)) place =
      let a = space_framed s in
      let b = chars_framed k in
      let c = space_framed t in
      let d = space_framed u in
      let e = value_framed v in
      let f = space_framed w in
      let front = a.bs ++ ((34 ∷ b.bs) ++ c.bs) in
      let back = d.bs ++ (e.bs ++ f.bs) in
      let at : ℕ = place + length front + 1 in
      let named : Padded IsText place front (record { at_byte = place + length a.bs; bytes = 34 ∷ b.bs }) = padded (alone a) (quoted (alone b)) (alone c) in
      let valued : Padded (IsValue n) at back (record { at_byte = at + length d.bs; bytes = e.bs }) = padded (alone d) (alone e) (alone f) in
      let part : Pair n place (front ++ (58 ∷ back)) _ = pair named valued in
      let before = grouped a.bs (34 ∷ b.bs) c.bs _ a.is (ap (λ w. 34 ∷ w) b.is) c.is in
      let behind = grouped d.bs e.bs f.bs _ d.is e.is f.is in
      let all = before ∙ ap (λ w. front ++ (58 ∷ w)) behind ∙ sym (append_assoc front (58 ∷ back) _) in
      subst (MemberParts n place) (sym all) (more_member_parts m place part)

  more_member_parts : {n : ℕ} {xs part : List ℕ} {x : Node × Node} → MoreMembers n xs [] → (place : ℕ) → Pair n place part x → MemberParts n place (part ++ xs)
  more_member_parts {x = x} object_end place p = (x ∷ [], last_part p)
  more_member_parts {part = part} {x = x} (next_member s i) place p =
      let rest = member_parts s i (place + length part + 1) in
      (x ∷ rest.0, next_part p rest.1)

-- ---- between brackets

abbrev ListParts : ℕ → ℕ → List ℕ → Type 0
ListParts n place inside = (is : List Node) × ListOf n (record { at_byte = place; bytes = 91 ∷ inside }) is

abbrev ObjectParts : ℕ → ℕ → List ℕ → Type 0
ObjectParts n place inside = (ms : List (Node × Node)) × ObjectOf n (record { at_byte = place; bytes = 123 ∷ inside }) ms

list_parts : {n : ℕ} {inside xs : List ℕ} → Space inside xs → Items n xs [] → (place : ℕ) → ListParts n place inside
list_parts {n = n} s no_item place = let a = space_framed s in subst (ListParts n place) (sym a.is) ([], no_part (alone a))
list_parts s (some_items i) place = let p = item_parts s i (place + 1) in (p.0, parts p.1)

object_parts : {n : ℕ} {inside xs : List ℕ} → Space inside xs → Members n xs [] → (place : ℕ) → ObjectParts n place inside
object_parts {n = n} s no_member place = let a = space_framed s in subst (ObjectParts n place) (sym a.is) ([], no_part (alone a))
object_parts s (some_members i) place = let p = member_parts s i (place + 1) in (p.0, parts p.1)

-- ---- kinds

nonzero_kind : (x : ℕ) → is_nonzero x ≡ true → kind_from x ≡ kind.Number
nonzero_kind x e = grind (arith, nat_tests)

pub number_kind : {xs r : List ℕ} → Number xs r → kind_of xs ≡ kind.Number
number_kind (minus u) = refl
number_kind (plain_number (zero_first f)) = refl
number_kind (plain_number (digit_first {x = x} e d f)) = nonzero_kind x e

kind_is : {n : ℕ} {xs r : List ℕ} → (v : Value n xs r) → kind_of xs ≡ kind_by v
kind_is null = refl
kind_is yes = refl
kind_is no = refl
kind_is (number d) = number_kind d
kind_is (text d) = refl
kind_is (list s d) = refl
kind_is (object s d) = refl

pub is_kind : (bytes : List ℕ) → IsKind (kind_of bytes) bytes
is_kind bytes n v = kind_is v

-- ---- the walk

has_items_at : {n : ℕ} {bytes : List ℕ} → (place : ℕ) → Value n bytes [] → kind_of bytes ≡ kind.List → Below n (λ k. ListOf k (record { at_byte = place; bytes = bytes }) (items (record { at_byte = place; bytes = bytes })))
has_items_at place null e = absurd cc
has_items_at place yes e = absurd cc
has_items_at place no e = absurd cc
has_items_at place (number d) e = let h = number_kind d in absurd cc
has_items_at place (text d) e = absurd cc
has_items_at place (list {n = n} {xs = xs} s d) e =
    let p = list_parts s d place in
    let node : Node = record { at_byte = place; bytes = 91 ∷ xs } in
    subst (λ is. ListOf n node is) (only_items node n p.0 p.1) p.1
has_items_at place (object s d) e = absurd cc

has_members_at : {n : ℕ} {bytes : List ℕ} → (place : ℕ) → Value n bytes [] → kind_of bytes ≡ kind.Object → Below n (λ k. ObjectOf k (record { at_byte = place; bytes = bytes }) (members (record { at_byte = place; bytes = bytes })))
has_members_at place null e = absurd cc
has_members_at place yes e = absurd cc
has_members_at place no e = absurd cc
has_members_at place (number d) e = let h = number_kind d in absurd cc
has_members_at place (text d) e = absurd cc
has_members_at place (list s d) e = absurd cc
has_members_at place (object {n = n} {xs = xs} s d) e =
    let p = object_parts s d place in
    let node : Node = record { at_byte = place; bytes = 123 ∷ xs } in
    subst (λ ms. ObjectOf n node ms) (only_members node n p.0 p.1) p.1

pub has_items : (node : Node) → HasItems node (items node)
has_items node n d e = has_items_at node.at_byte d e

pub has_members : (node : Node) → HasMembers node (members node)
has_members node n d e = has_members_at node.at_byte d e

-- ---- each part

parted_all : {X : Type 0} {P : ℕ → List ℕ → X → Type 0} {close place : ℕ} {bytes : List ℕ} {xs : List X} → (Q : X → Type 0) → ((place : ℕ) (part : List ℕ) (x : X) → P place part x → Q x) → Parted P close place bytes xs → AllByRecursion Q xs
parted_all Q h (last_part {place = place} {part = part} {x = x} p) = (h place part x p, tt)
parted_all Q h (next_part {place = place} {part = part} {x = x} p q) = (h place part x p, parted_all Q h q)

pub bracketed_each : {X : Type 0} {P : ℕ → List ℕ → X → Type 0} {start close place : ℕ} {bytes : List ℕ} {xs : List X} → (Q : X → Type 0) → ((place : ℕ) (part : List ℕ) (x : X) → P place part x → Q x) → Bracketed P start close place bytes xs → AllByRecursion Q xs
bracketed_each Q h (no_part s) = tt
bracketed_each Q h (parts q) = parted_all Q h q

bracketed_all : {X : Type 0} {P : ℕ → List ℕ → X → Type 0} {start close place : ℕ} {bytes : List ℕ} {xs : List X} → (Q : X → Type 0) → ((place : ℕ) (part : List ℕ) (x : X) → P place part x → Q x) → Bracketed P start close place bytes xs → All Q xs
bracketed_all {xs = xs} Q h d = All-from_recursion Q xs (bracketed_each Q h d)

pub padded_value : {A : List ℕ → Type 0} (place : ℕ) (part : List ℕ) (x : Node) → Padded A place part x → A x.bytes
padded_value place part x (padded a v b) = v

pub pair_value : (n place : ℕ) (part : List ℕ) (m : Node × Node) → Pair n place part m → IsText m.0.bytes × IsValue n m.1.bytes
pair_value n place part m (pair a b) = (padded_value _ _ _ a, padded_value _ _ _ b)

below_map : (n : ℕ) (P Q : ℕ → Type 0) → ((k : ℕ) → P k → Q k) → Below n P → Below n Q
below_map zero P Q f h = absurd h
below_map (suc n) P Q f h = f n h

pub items_are_values : (node : Node) → ItemsAreValues node (items node)
items_are_values node n d e =
    below_map n (λ k. ListOf k node (items node)) (λ k. All (λ i. IsValue k i.bytes) (items node))
    (λ k l. bracketed_all (λ i. IsValue k i.bytes) (padded_value {A = IsValue k}) l) (has_items node n d e)

pub members_are_values : (node : Node) → MembersAreValues node (members node)
members_are_values node n d e =
    below_map n (λ k. ObjectOf k node (members node)) (λ k. All (λ m. IsText m.0.bytes × IsValue k m.1.bytes) (members node))
    (λ k l. bracketed_all (λ m. IsText m.0.bytes × IsValue k m.1.bytes) (pair_value k) l) (has_members node n d e)

-- ---- a whole text

pub root_padded : (n : ℕ) (xs : List ℕ) → Json n xs → Padded (IsValue n) 0 xs (trimmed (record { at_byte = 0; bytes = xs }))
root_padded n xs (json s v t) =
    let a = space_framed s in
    let b = value_framed v in
    let c = space_framed t in
    let whole : xs ≡ a.bs ++ (b.bs ++ c.bs) = grouped a.bs b.bs c.bs [] a.is b.is c.is ∙ append-nil (a.bs ++ (b.bs ++ c.bs)) in
    let part : Padded (IsValue n) 0 (a.bs ++ (b.bs ++ c.bs)) (record { at_byte = 0 + length a.bs; bytes = b.bs }) = padded (alone a) (alone b) (alone c) in
    let there : Padded (IsValue n) 0 xs (record { at_byte = 0 + length a.bs; bytes = b.bs }) = subst (λ w. Padded (IsValue n) 0 w (record { at_byte = 0 + length a.bs; bytes = b.bs })) (sym whole) part in
    subst (λ node. Padded (IsValue n) 0 xs node) (sym (trimmed_is (value_solid n) there)) there

pub root_value : (n : ℕ) (xs : List ℕ) → Json n xs → IsValue n (trimmed (record { at_byte = 0; bytes = xs })).bytes
root_value n xs h = padded_value {A = IsValue n} 0 xs (trimmed (record { at_byte = 0; bytes = xs })) (root_padded n xs h)

-- and the value is what is left without the space
pub padded_root : {n : ℕ} {xs : List ℕ} {root : Node} → Padded (IsValue n) 0 xs root → root ≡ trimmed (record { at_byte = 0; bytes = xs })
padded_root {n = n} d = sym (trimmed_is (value_solid n) d)
