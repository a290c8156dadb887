-- The object with these members, as the writer writes it, is a value, and these are its members.
use Rattle.kit_words.proofs.Common.{◌≡◌, ℕ, suc, ◌+◌, List, [], ◌∷◌, ◌++◌, length, map, refl, sym, ap, subst}
use Rattle.kit_words.proofs.Common.{append_assoc, AllByRecursion, append-nil}
use Rattle.ring_machine.specs.Common.{Member}
use Rattle.json_spans.specs.Grammar.{no_space, Value, object, no_member, some_members, SomeMembers, name, member as behind_name, MoreMembers, object_end, next_member}
use Rattle.json_spans.specs.Common.{Node, IsValue, IsText, quoted, Pair, pair, Parted, last_part, next_part, Bracketed}
use Rattle.json_spans.specs.Common.{no_part, parts, IsObjectOf}
use Rattle.json_spans.proofs.Common.{chars_framed, value_framed, stands}
use Rattle.topo_outline.specs.Common.{IsJson}
use Rattle.map_text.specs.Common.{further, member_text, object_text}
use Rattle.map_text.proofs.GrammarDeeper.{all_at_once}
use Rattle.map_text.proofs.GrammarLists.{bare}

abbrev pub value_text : Member → List ℕ
value_text m = m.value

-- names are strings, and values are JSON
pub record IsMember (m : Member) : Type 0 where
  pub string : IsText m.name
  pub json : IsJson m.value

record IsMemberOf (n : ℕ) (m : Member) : Type 0 where
  string : IsText m.name
  value : IsValue n m.value

values_of : (ms : List Member) → AllByRecursion IsMember ms → AllByRecursion IsJson (map value_text ms)
values_of [] h = tt
values_of (m ∷ ms) h = (h.0.json, values_of ms h.1)

members_of : (n : ℕ) (ms : List Member) → AllByRecursion IsMember ms → AllByRecursion (IsValue n) (map value_text ms) → AllByRecursion (IsMemberOf n) ms
members_of n [] h v = tt
members_of n (m ∷ ms) h v = (record { string = h.0.string; value = v.0 }, members_of n ms h.1 v.1)

all_members : (ms : List Member) → AllByRecursion IsMember ms → (n : ℕ) × AllByRecursion (IsMemberOf n) ms
all_members ms h = let all = all_at_once (map value_text ms) (values_of ms h) in (all.0, members_of all.0 ms h all.1)

-- ---- the value

named_then : (n : ℕ) (token value zs : List ℕ) → IsText token → IsValue n value → MoreMembers n zs [] → SomeMembers n ((token ++ (58 ∷ value)) ++ zs) []
named_then n token value zs (quoted {xs = xs} k) v h =
    subst (λ z. SomeMembers n (34 ∷ z) []) (sym (append_assoc xs (58 ∷ value) zs))
    (name (stands (chars_framed k) (58 ∷ (value ++ zs))) (behind_name no_space no_space (stands (value_framed v) zs) no_space h))

more_members : (n : ℕ) (ms : List Member) → AllByRecursion (IsMemberOf n) ms → MoreMembers n (further (map member_text ms) ++ (125 ∷ [])) []
more_members n [] h = object_end
more_members n (m ∷ ms) h =
    subst (λ z. MoreMembers n z []) (sym (append_assoc (44 ∷ member_text m) (further (map member_text ms)) (125 ∷ [])))
    (next_member no_space (named_then n m.name m.value (further (map member_text ms) ++ (125 ∷ [])) h.0.string h.0.value (more_members n ms h.1)))

object_is_value : (n : ℕ) (ms : List Member) → AllByRecursion (IsMemberOf n) ms → IsValue (suc n) (object_text ms)
object_is_value n [] h = object no_space no_member
object_is_value n (m ∷ ms) h =
    subst (λ z. Value (suc n) (123 ∷ z) []) (sym (append_assoc (member_text m) (further (map member_text ms)) (125 ∷ [])))
    (object no_space (some_members (named_then n m.name m.value (further (map member_text ms) ++ (125 ∷ [])) h.0.string h.0.value (more_members n ms h.1))))

-- the object with such members is JSON
pub object_is_json : (ms : List Member) → AllByRecursion IsMember ms → IsJson (object_text ms)
object_is_json ms h = let all = all_members ms h in (suc all.0, object_is_value all.0 ms all.1)

-- ---- the members

abbrev pub as_member : Node × Node → Member
as_member m = record { name = m.0.bytes; value = m.1.bytes }

abbrev nodes_at : ℕ → Member → Node × Node
nodes_at place m = (record { at_byte = place + 0; bytes = m.name }, record { at_byte = place + length m.name + 1 + 0; bytes = m.value })

paired : (n place : ℕ) (m : Member) → IsMemberOf n m → Pair n place (member_text m) (nodes_at place m)
paired n place m h = pair (bare place m.name h.string) (bare (place + length m.name + 1) m.value h.value)

record Paired (n place : ℕ) (inside : List ℕ) (ms : List Member) : Type 0 where
  nodes : List (Node × Node)
  parted : Parted (Pair n) 125 place inside nodes
  are : map as_member nodes ≡ ms

all_paired : (n place : ℕ) (m : Member) (ms : List Member) → IsMemberOf n m → AllByRecursion (IsMemberOf n) ms → Paired n place ((member_text m ++ further (map member_text ms)) ++ (125 ∷ [])) (m ∷ ms)
all_paired n place m [] v h = record {
  nodes = nodes_at place m ∷ [];
  parted = subst (λ z. Parted (Pair n) 125 place (z ++ (125 ∷ [])) (nodes_at place m ∷ [])) (sym (append-nil (member_text m))) (last_part (paired n place m v));
  are = refl;
}
all_paired n place m (k ∷ ks) v h =
    let rest = all_paired n (place + length (member_text m) + 1) k ks h.0 h.1 in
    record {
      nodes = nodes_at place m ∷ rest.nodes;
      parted = subst (λ z. Parted (Pair n) 125 place z (nodes_at place m ∷ rest.nodes)) (sym (append_assoc (member_text m) (44 ∷ (member_text k ++ further (map member_text ks))) (125 ∷ []))) (next_part (paired n place m v) rest.parted);
      are = ap (λ (z : List Member). m ∷ z) rest.are;
    }

-- the node is an object with these members
pub record HasMembers (node : Node) (ms : List Member) : Type 0 where
  pub nodes : List (Node × Node)
  pub object : IsObjectOf node nodes
  pub are : map as_member nodes ≡ ms

all_there : (n : ℕ) (node : Node) (ms : List Member) → node.bytes ≡ object_text ms → AllByRecursion (IsMemberOf n) ms → HasMembers node ms
all_there n node [] e h = record {
  nodes = [];
  object = (n, subst (λ z. Bracketed (Pair n) 123 125 node.at_byte z []) (sym e) (no_part no_space));
  are = refl;
}
all_there n node (m ∷ ms) e h =
    let all = all_paired n (node.at_byte + 1) m ms h.0 h.1 in
    record {
      nodes = all.nodes;
      object = (n, subst (λ z. Bracketed (Pair n) 123 125 node.at_byte z all.nodes) (sym e) (parts all.parted));
      are = all.are;
    }

-- the members of an object are those that it was made of
pub has_members : (node : Node) (ms : List Member) → node.bytes ≡ object_text ms → AllByRecursion IsMember ms → HasMembers node ms
has_members node ms e h = let all = all_members ms h in all_there all.0 node ms e all.1
