-- What stands in a list or in an object has fewer lists and objects one in another, and what is
-- tested is so in the grammar.
use Rattle.kit_words.proofs.Common.{◌≡◌, ◌≤◌, ◌&&◌, ℕ, zero, suc, List, [], ◌∷◌, Bool, true, refl, sym, ap, ap₂, subst}
use Rattle.kit_words.proofs.Common.{arith, Some, AllByRecursion, list_all, recursion_from_All, and_parts}
use Rattle.json_spans.specs.Common.{Node, items, members, kind_of, IsText, IsValue, IsListOf, IsObjectOf, IsList}
use Rattle.json_spans.specs.Common.{IsListWith}
use Rattle.json_spans.specs.declared.kinds.Kind.{Kind}
use Rattle.json_spans.specs.declared.kinds.Kind.TheVariants as kind
use Rattle.json_spans.proofs.Common.{items_are_values, members_are_values, list_told, object_told, list_kind}
use Rattle.json_spans.proofs.Common.{object_kind, items_told, members_told}
use Rattle.topo_outline.specs.Common.{Word, EntryNode, is_list, is_object, is_list_kind, is_kind_object, are_lists}
use Rattle.topo_outline.specs.Common.{are_lists_of_lists, HasEntries, value_at, AreLists, AreListsOfLists, NestsAtMost}
use Rattle.topo_outline.proofs.Values.{values_have, value_has}

-- the value of each member has at most k levels
abbrev pub AllNest : ℕ → List EntryNode → Type 0
AllNest k es = AllByRecursion (λ e. NestsAtMost k e.value) es

pub value_nests : (k : ℕ) (w : Word) (es : List EntryNode) (v : Node) → AllNest k es → value_at w es ≡ Some v → NestsAtMost k v
value_nests k w es v h is = value_has (NestsAtMost k) w es v h is

pub an_object : (k : Kind) → is_kind_object k ≡ true → k ≡ kind.Object
an_object kind.Object h = refl
an_object _ h = absurd cc

a_list : (k : Kind) → is_list_kind k ≡ true → k ≡ kind.List
a_list kind.List h = refl
a_list _ h = absurd cc

each_value : (k : ℕ) (ms : List (Node × Node)) → AllByRecursion (λ m. IsText m.0.bytes × IsValue k m.1.bytes) ms → AllByRecursion (λ m. NestsAtMost k m.1) ms
each_value k [] h = tt
each_value k (m ∷ ms) h = (h.0.1, each_value k ms h.1)

-- ---- objects and lists that pass the test

pub object_here : (k : ℕ) (n : Node) → NestsAtMost k n → is_object n ≡ true → IsObjectOf n (members n)
object_here k n nests h = object_told k n nests (an_object (kind_of n.bytes) h)

pub list_here : (k : ℕ) (n : Node) → NestsAtMost k n → is_list n ≡ true → IsListOf n (items n)
list_here k n nests h = list_told k n nests (a_list (kind_of n.bytes) h)

pub is_an_object : {n : Node} {ms : List (Node × Node)} → IsObjectOf n ms → is_object n ≡ true
is_an_object o = ap is_kind_object (object_kind o)

pub is_a_list : {n : Node} {ns : List Node} → IsListOf n ns → is_list n ≡ true
is_a_list l = ap is_list_kind (list_kind l)

-- ---- one level less

-- the name of each member of an object is a string, and its value has fewer levels
object_parts : (k : ℕ) (n : Node) → NestsAtMost k n → is_object n ≡ true → (j : ℕ) × (suc j ≤ k) × AllByRecursion (λ m. IsText m.0.bytes × IsValue j m.1.bytes) (members n)
object_parts zero n h object = absurd (members_are_values n zero h (an_object (kind_of n.bytes) object))
object_parts (suc k) n h object = (k, omega arith, recursion_from_All (λ m. IsText m.0.bytes × IsValue k m.1.bytes) (members n) (members_are_values n (suc k) h (an_object (kind_of n.bytes) object)))

pub object_nests : (k : ℕ) (n : Node) (es : List EntryNode) → NestsAtMost k n → HasEntries n es → (j : ℕ) × (suc j ≤ k) × AllNest j es
object_nests k n es h o =
    let (j, less, parts) = object_parts k n h (is_an_object o.object) in
    let same : o.members ≡ members n = members_told o.object in
    (j, less, values_have (NestsAtMost j) o.entries (subst (λ ms. AllByRecursion (λ m. NestsAtMost j m.1) ms) (sym same) (each_value j (members n) parts)))

item_levels : (k : ℕ) (n : Node) → NestsAtMost k n → is_list n ≡ true → (j : ℕ) × (suc j ≤ k) × AllByRecursion (NestsAtMost j) (items n)
item_levels zero n h list = absurd (items_are_values n zero h (a_list (kind_of n.bytes) list))
item_levels (suc k) n h list = (k, omega arith, recursion_from_All (NestsAtMost k) (items n) (items_are_values n (suc k) h (a_list (kind_of n.bytes) list)))

pub list_nests : (k : ℕ) (n : Node) {ns : List Node} → NestsAtMost k n → IsListOf n ns → (j : ℕ) × (suc j ≤ k) × AllByRecursion (NestsAtMost j) ns
list_nests k n h l =
    let (j, less, all) = item_levels k n h (is_a_list l) in
    (j, less, subst (λ ms. AllByRecursion (NestsAtMost j) ms) (sym (items_told l)) all)

-- ---- lists of lists

module _ (P : Node → Type 0) (test : Node → Bool) where
  each_here : ((k : ℕ) (n : Node) → NestsAtMost k n → test n ≡ true → P n) → (k : ℕ) (ns : List Node) → AllByRecursion (NestsAtMost k) ns → list_all test ns ≡ true → AllByRecursion P ns
  each_here one k [] nests h = tt
  each_here one k (n ∷ ns) nests h =
      let (first, rest) = and_parts (test n) (list_all test ns) h in
      (one k n nests.0 first, each_here one k ns nests.1 rest)

  listed_here : ((k : ℕ) (n : Node) → NestsAtMost k n → test n ≡ true → P n) → (k : ℕ) (n : Node) → NestsAtMost k n → (is_list n && list_all test (items n)) ≡ true → IsListWith P n
  listed_here one k n nests h =
      let (list, all) = and_parts (is_list n) (list_all test (items n)) h in
      let found = list_here k n nests list in
      let (j, less, inner) = list_nests k n nests found in
      (items n, found, each_here one j (items n) inner all)

  each_tested : ((n : Node) → P n → test n ≡ true) → (ns : List Node) → AllByRecursion P ns → list_all test ns ≡ true
  each_tested one [] h = refl
  each_tested one (n ∷ ns) h = ap₂ (λ a b. a && b) (one n h.0) (each_tested one ns h.1)

  listed_tested : ((n : Node) → P n → test n ≡ true) → (n : Node) → IsListWith P n → (is_list n && list_all test (items n)) ≡ true
  listed_tested one n h = ap₂ (λ a b. a && b) (is_a_list h.1) (subst (λ ns. list_all test ns ≡ true) (items_told h.1) (each_tested one h.0 h.2))

a_list_here : (k : ℕ) (n : Node) → NestsAtMost k n → is_list n ≡ true → IsList n
a_list_here k n nests h = (items n, list_here k n nests h)

pub lists_here : (k : ℕ) (n : Node) → NestsAtMost k n → are_lists n ≡ true → AreLists n
lists_here k n nests h = listed_here IsList is_list a_list_here k n nests h

pub lists_of_lists_here : (k : ℕ) (n : Node) → NestsAtMost k n → are_lists_of_lists n ≡ true → AreListsOfLists n
lists_of_lists_here k n nests h = listed_here AreLists are_lists lists_here k n nests h

pub are_lists_tested : (n : Node) → AreLists n → are_lists n ≡ true
are_lists_tested n h = listed_tested IsList is_list (λ m l. is_a_list l.1) n h

pub are_lists_of_lists_tested : (n : Node) → AreListsOfLists n → are_lists_of_lists n ≡ true
are_lists_of_lists_tested n h = listed_tested AreLists are_lists are_lists_tested n h
