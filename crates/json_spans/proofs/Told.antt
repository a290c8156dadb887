-- The kind of a value tells its case of the grammar, and the walk its parts.
use Rattle.kit_words.proofs.Common.{◌≡◌, ℕ, zero, suc, List, ◌∷◌, refl, ap, AllByRecursion}
use Rattle.json_spans.specs.Common.{Value, null, yes, no, number, text, list, object, Node, kind_of, items, members}
use Rattle.json_spans.specs.Common.{IsValue, IsText, quoted, IsNumber, IsNull, Bracketed, no_part, parts, Below, ListOf}
use Rattle.json_spans.specs.Common.{ObjectOf, IsListOf, IsObjectOf}
use Rattle.json_spans.specs.declared.kinds.Kind.TheVariants as kind
use Rattle.json_spans.proofs.Itemized.{only_items, only_members}
use Rattle.json_spans.proofs.Grouped.{number_kind, has_items, has_members, bracketed_each, padded_value, pair_value}

-- ---- from kinds to the grammar

some_level : (n : ℕ) (P : ℕ → Type 0) → Below n P → (k : ℕ) × P k
some_level zero P h = absurd h
some_level (suc n) P h = (n, h)

pub list_told : (n : ℕ) (node : Node) → IsValue n node.bytes → kind_of node.bytes ≡ kind.List → IsListOf node (items node)
list_told n node v e = some_level n (λ k. ListOf k node (items node)) (has_items node n v e)

pub object_told : (n : ℕ) (node : Node) → IsValue n node.bytes → kind_of node.bytes ≡ kind.Object → IsObjectOf node (members node)
object_told n node v e = some_level n (λ k. ObjectOf k node (members node)) (has_members node n v e)

pub text_told : {n : ℕ} {bytes : List ℕ} → IsValue n bytes → kind_of bytes ≡ kind.Text → IsText bytes
text_told null e = absurd cc
text_told yes e = absurd cc
text_told no e = absurd cc
text_told (number d) e = let h = number_kind d in absurd cc
text_told (text d) e = quoted d
text_told (list s d) e = absurd cc
text_told (object s d) e = absurd cc

pub number_told : {n : ℕ} {bytes : List ℕ} → IsValue n bytes → kind_of bytes ≡ kind.Number → IsNumber bytes
number_told null e = absurd cc
number_told yes e = absurd cc
number_told no e = absurd cc
number_told (number d) e = d
number_told (text d) e = absurd cc
number_told (list s d) e = absurd cc
number_told (object s d) e = absurd cc

pub null_told : {n : ℕ} {bytes : List ℕ} → IsValue n bytes → kind_of bytes ≡ kind.Null → IsNull bytes
null_told null e = refl
null_told yes e = absurd cc
null_told no e = absurd cc
null_told (number d) e = let h = number_kind d in absurd cc
null_told (text d) e = absurd cc
null_told (list s d) e = absurd cc
null_told (object s d) e = absurd cc

-- ---- from the grammar to kinds

begins : {X : Type 0} {P : ℕ → List ℕ → X → Type 0} {start close place : ℕ} {bytes : List ℕ} {xs : List X} → Bracketed P start close place bytes xs → (rest : List ℕ) × (bytes ≡ start ∷ rest)
begins (no_part s) = (_, refl)
begins (parts q) = (_, refl)

pub list_kind : {node : Node} {is : List Node} → IsListOf node is → kind_of node.bytes ≡ kind.List
list_kind h = ap kind_of (begins h.1).1

pub object_kind : {node : Node} {ms : List (Node × Node)} → IsObjectOf node ms → kind_of node.bytes ≡ kind.Object
object_kind h = ap kind_of (begins h.1).1

pub text_kind : {bytes : List ℕ} → IsText bytes → kind_of bytes ≡ kind.Text
text_kind (quoted d) = refl

pub null_kind : {bytes : List ℕ} → IsNull bytes → kind_of bytes ≡ kind.Null
null_kind e = ap kind_of e

-- ---- the parts

pub items_told : {node : Node} {is : List Node} → IsListOf node is → is ≡ items node
items_told {node = node} {is = is} h = only_items node h.0 is h.1

pub members_told : {node : Node} {ms : List (Node × Node)} → IsObjectOf node ms → ms ≡ members node
members_told {node = node} {ms = ms} h = only_members node h.0 ms h.1

pub item_values : {node : Node} {is : List Node} → IsListOf node is → (n : ℕ) × AllByRecursion (λ i. IsValue n i.bytes) is
item_values h = (h.0, bracketed_each (λ i. IsValue h.0 i.bytes) (padded_value {A = IsValue h.0}) h.1)

pub member_values : {node : Node} {ms : List (Node × Node)} → IsObjectOf node ms → (n : ℕ) × AllByRecursion (λ m. IsText m.0.bytes × IsValue n m.1.bytes) ms
member_values h = (h.0, bracketed_each (λ m. IsText m.0.bytes × IsValue h.0 m.1.bytes) (pair_value h.0) h.1)
