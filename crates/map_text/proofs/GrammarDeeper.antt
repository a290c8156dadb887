-- A value stays one where more lists and objects may stand one in another.
use Rattle.kit_words.proofs.Common.{ℕ, zero, suc, ◌+◌, ◌≤◌, List, [], ◌∷◌, arith, AllByRecursion}
use Rattle.json_spans.specs.Common.{Value, null, yes, no, number, text, list, object, Items, no_item, some_items}
use Rattle.json_spans.specs.Common.{SomeItems, item, MoreItems, list_end, next_item, Members, no_member, some_members}
use Rattle.json_spans.specs.Common.{SomeMembers, name, Named, member, MoreMembers, object_end, next_member, IsValue}
use Rattle.topo_outline.specs.Common.{IsJson}

mutual
  value_deeper : {n : ℕ} {xs r : List ℕ} (m : ℕ) → n ≤ m → Value n xs r → Value m xs r
  value_deeper m le null = null
  value_deeper m le yes = yes
  value_deeper m le no = no
  value_deeper m le (number d) = number d
  value_deeper m le (text c) = text c
  value_deeper zero le (list s i) = absurd (omega (arith, le))
  value_deeper (suc m) le (list s i) = list s (items_deeper m (omega (arith, le)) i)
  value_deeper zero le (object s i) = absurd (omega (arith, le))
  value_deeper (suc m) le (object s i) = object s (members_deeper m (omega (arith, le)) i)

  items_deeper : {n : ℕ} {xs r : List ℕ} (m : ℕ) → n ≤ m → Items n xs r → Items m xs r
  items_deeper m le no_item = no_item
  items_deeper m le (some_items i) = some_items (some_items_deeper m le i)

  some_items_deeper : {n : ℕ} {xs r : List ℕ} (m : ℕ) → n ≤ m → SomeItems n xs r → SomeItems m xs r
  some_items_deeper m le (item v s i) = item (value_deeper m le v) s (more_items_deeper m le i)

  more_items_deeper : {n : ℕ} {xs r : List ℕ} (m : ℕ) → n ≤ m → MoreItems n xs r → MoreItems m xs r
  more_items_deeper m le list_end = list_end
  more_items_deeper m le (next_item s i) = next_item s (some_items_deeper m le i)

  members_deeper : {n : ℕ} {xs r : List ℕ} (m : ℕ) → n ≤ m → Members n xs r → Members m xs r
  members_deeper m le no_member = no_member
  members_deeper m le (some_members i) = some_members (some_members_deeper m le i)

  some_members_deeper : {n : ℕ} {xs r : List ℕ} (m : ℕ) → n ≤ m → SomeMembers n xs r → SomeMembers m xs r
  some_members_deeper m le (name c i) = name c (named_deeper m le i)

  named_deeper : {n : ℕ} {xs r : List ℕ} (m : ℕ) → n ≤ m → Named n xs r → Named m xs r
  named_deeper m le (member s t v u i) = member s t (value_deeper m le v) u (more_members_deeper m le i)

  more_members_deeper : {n : ℕ} {xs r : List ℕ} (m : ℕ) → n ≤ m → MoreMembers n xs r → MoreMembers m xs r
  more_members_deeper m le object_end = object_end
  more_members_deeper m le (next_member s i) = next_member s (some_members_deeper m le i)

all_deeper : {n : ℕ} (m : ℕ) (ts : List (List ℕ)) → n ≤ m → AllByRecursion (IsValue n) ts → AllByRecursion (IsValue m) ts
all_deeper m [] le h = tt
all_deeper m (t ∷ ts) le h = (value_deeper m le h.0, all_deeper m ts le h.1)

-- values that are JSON are so with one common bound
pub all_at_once : (ts : List (List ℕ)) → AllByRecursion IsJson ts → (n : ℕ) × AllByRecursion (IsValue n) ts
all_at_once [] h = (0, tt)
all_at_once (t ∷ ts) h =
    let rest = all_at_once ts h.1 in
    let n : ℕ = h.0.0 + rest.0 in
    (n, (value_deeper n (omega arith) h.0.1, all_deeper n ts (omega arith) rest.1))
