-- What stands inside a list and inside an object (RFC 8259, sections 4 and 5), put together from
-- its bytes. Bytes: 44 `,`, 58 `:`, 91 `[`, 93 `]`, 123 `{`, 125 `}`.
use Rattle.std.specs.Prelude.{◌≡◌, ℕ, zero, suc, ◌+◌, List, [], ◌∷◌, ◌++◌, length, codes}
use Rattle.std.specs.List.{All, AllByRecursion, AllZip}
use Rattle.json_spans.specs.Grammar.{Space, Chars, Number, Value}
use Rattle.json_spans.specs.Nodes.{Node}
use Rattle.json_spans.specs.Kinds.{kind_of}
use Rattle.json_spans.specs.declared.kinds.Kind.TheVariants as kind

-- nothing but space, a value with at most n lists and objects one in another, and a string
abbrev pub IsSpace : List ℕ → Type 0
IsSpace bytes = Space bytes []

abbrev pub IsValue : ℕ → List ℕ → Type 0
IsValue n bytes = Value n bytes []

pub data IsText : List ℕ → Type 0 where
  quoted : {xs : List ℕ} → Chars xs [] → IsText (34 ∷ xs)

-- a number, and the literal null (sections 6 and 3)
abbrev pub IsNumber : List ℕ → Type 0
IsNumber bytes = Number bytes []

abbrev pub IsNull : List ℕ → Type 0
IsNull bytes = bytes ≡ codes "null"

-- The bytes from the place on are one of `A` with space round it, and the node is that one.
pub data Padded (A : List ℕ → Type 0) : ℕ → List ℕ → Node → Type 0 where
  padded : {place : ℕ} {front bytes back : List ℕ} →
      IsSpace front → A bytes → IsSpace back →
      Padded A place (front ++ (bytes ++ back))
      (record { at_byte = place + length front; bytes = bytes })

-- a name, a colon and a value (section 4)
pub data Pair (n : ℕ) : ℕ → List ℕ → Node × Node → Type 0 where
  pair : {place : ℕ} {front back : List ℕ} {name value : Node} →
      Padded IsText place front name → Padded (IsValue n) (place + length front + 1) back value →
      Pair n place (front ++ (58 ∷ back)) (name, value)

-- parts with a comma between each two of them, and the closing bracket
pub data Parted {X : Type 0} (P : ℕ → List ℕ → X → Type 0) (close : ℕ) :
    ℕ → List ℕ → List X → Type 0 where
  last_part : {place : ℕ} {part : List ℕ} {x : X} →
      P place part x → Parted P close place (part ++ (close ∷ [])) (x ∷ [])
  next_part : {place : ℕ} {part rest : List ℕ} {x : X} {xs : List X} →
      P place part x → Parted P close (place + length part + 1) rest xs →
      Parted P close place (part ++ (44 ∷ rest)) (x ∷ xs)

-- the opening bracket, and parts or nothing, up to the closing bracket
pub data Bracketed {X : Type 0} (P : ℕ → List ℕ → X → Type 0) (start close : ℕ) :
    ℕ → List ℕ → List X → Type 0 where
  no_part : {place : ℕ} {blank : List ℕ} →
      IsSpace blank → Bracketed P start close place (start ∷ (blank ++ (close ∷ []))) []
  parts : {place : ℕ} {inside : List ℕ} {xs : List X} →
      Parted P close (place + 1) inside xs → Bracketed P start close place (start ∷ inside) xs

-- the node is a list of these items, each with at most n lists and objects one in another
abbrev pub ListOf : ℕ → Node → List Node → Type 0
ListOf n node items = Bracketed (Padded (IsValue n)) 91 93 node.at_byte node.bytes items

-- the node is an object of these names and values
abbrev pub ObjectOf : ℕ → Node → List (Node × Node) → Type 0
ObjectOf n node members = Bracketed (Pair n) 123 125 node.at_byte node.bytes members

-- the same, however deep they are
abbrev pub IsListOf : Node → List Node → Type 0
IsListOf node items = (n : ℕ) × ListOf n node items

abbrev pub IsObjectOf : Node → List (Node × Node) → Type 0
IsObjectOf node members = (n : ℕ) × ObjectOf n node members

-- the node is a list
abbrev pub IsList : Node → Type 0
IsList node = (items : List Node) × IsListOf node items

-- a list of such items
abbrev pub IsListWith : (Node → Type 0) → Node → Type 0
IsListWith P node = (items : List Node) × IsListOf node items × AllByRecursion P items

-- a list whose items stand for these, one by one
abbrev pub IsListFor : {A : Type 0} → (Node → A → Type 0) → Node → List A → Type 0
IsListFor R node as' = (items : List Node) × IsListOf node items × AllZip R items as'

-- ---- what a walk gives

-- one level less
abbrev pub Below : ℕ → (ℕ → Type 0) → Type 0
Below zero P = ⊥
Below (suc n) P = P n

-- where the node is a list in the grammar, these are its items
abbrev pub HasItems : Node → List Node → Type 0
HasItems node items =
    (n : ℕ) → IsValue n node.bytes → kind_of node.bytes ≡ kind.List →
    Below n (λ k. ListOf k node items)

-- where it is an object, these are its names and values
abbrev pub HasMembers : Node → List (Node × Node) → Type 0
HasMembers node members =
    (n : ℕ) → IsValue n node.bytes → kind_of node.bytes ≡ kind.Object →
    Below n (λ k. ObjectOf k node members)

-- there are no others
abbrev pub OnlyItems : Node → List Node → Type 0
OnlyItems node items = (n : ℕ) (others : List Node) → ListOf n node others → others ≡ items

abbrev pub OnlyMembers : Node → List (Node × Node) → Type 0
OnlyMembers node members =
    (n : ℕ) (others : List (Node × Node)) → ObjectOf n node others → others ≡ members

-- each item is a value with one level less
abbrev pub ItemsAreValues : Node → List Node → Type 0
ItemsAreValues node items =
    (n : ℕ) → IsValue n node.bytes → kind_of node.bytes ≡ kind.List →
    Below n (λ k. All (λ item. IsValue k item.bytes) items)

-- each name is a string, and each value is a value with one level less
abbrev pub MembersAreValues : Node → List (Node × Node) → Type 0
MembersAreValues node members =
    (n : ℕ) → IsValue n node.bytes → kind_of node.bytes ≡ kind.Object →
    Below n (λ k. All (λ pair. IsText pair.0.bytes × IsValue k pair.1.bytes) members)
