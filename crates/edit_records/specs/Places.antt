-- The places of a map's features: its tree, in which each number that a feature ever had stands in
-- its place, also after the feature was taken out.
use Rattle.std.specs.Prelude.{ℕ, ◌≡◌, ◌==◌, Bool, true, false, IsTrue, if◌then◌else◌, List, [], ◌∷◌}
use Rattle.std.specs.Prelude.{map, Option, None, Some, option_map}
use Rattle.std.specs.List.{flat_map, list_any, list_all}
use Rattle.ring_machine.specs.Common.{Text, Head, FeatureOf, ItemOf, Open, Close, Leaf, Kept, LayerOf, DocumentOf}
use Rattle.ring_machine.specs.Common.{feature, empty_collection}

-- an item of a tree in which a feature stands by its number
pub data Place : Type 0 where
  Begins : Head → Place
  Ends : Place
  Text_of : Text → Place
  Number : ℕ → Place

-- the geometry of a layer: a feature that is itself the layer, or a collection or a kept text
-- with all that is in it (TopoJSON 1.0, 2.1.5)
pub data Tree : Type 0 where
  Alone : ℕ → Tree
  Places : List Place → Tree

-- a layer with its tree
pub record LayerTree : Type 0 where
  pub name : Text
  pub tree : Tree

-- a layer is a feature, or it begins with a collection or a kept text
abbrev pub is_formed : Tree → Bool
is_formed (Alone n) = true
is_formed (Places (Begins h ∷ ps)) = true
is_formed (Places (Text_of t ∷ ps)) = true
is_formed _ = false

-- each layer is formed so
abbrev pub AreFormed : List LayerTree → Type 0
AreFormed trees = IsTrue (list_all (λ l. is_formed l.tree) trees)

-- ---- which numbers have a place

abbrev pub number_of : Place → List ℕ
number_of (Number n) = n ∷ []
number_of _ = []

abbrev pub numbers_of : Tree → List ℕ
numbers_of (Alone n) = n ∷ []
numbers_of (Places ps) = flat_map number_of ps

-- the numbers in the order of their places
abbrev pub numbers_placed : List LayerTree → List ℕ
numbers_placed trees = flat_map (λ l. numbers_of l.tree) trees

-- the number has a place
abbrev pub has_place : List LayerTree → ℕ → Bool
has_place trees n = list_any (λ m. m == n) (numbers_placed trees)

-- ---- what stands there

-- the leaf of a feature that is there
abbrev pub leaf : {R : Type 0} → Option (FeatureOf R) → List (ItemOf R)
leaf None = []
leaf (Some f) = Leaf f ∷ []

-- the items, and those of an empty collection where there are none
abbrev pub or_empty : {R : Type 0} → List (ItemOf R) → List (ItemOf R)
or_empty [] = empty_collection
or_empty (i ∷ items) = i ∷ items

module _ {R : Type 0} (features : ℕ → Option (FeatureOf R)) where
  abbrev pub item_at : Place → List (ItemOf R)
  item_at (Begins h) = Open h ∷ []
  item_at Ends = Close ∷ []
  item_at (Text_of t) = Kept t ∷ []
  item_at (Number n) = leaf (features n)

  -- a layer's own feature, or an empty collection once it was taken out (TopoJSON 1.0, 2.2.7)
  abbrev pub items_of : Tree → List (ItemOf R)
  items_of (Alone n) = or_empty (leaf (features n))
  items_of (Places ps) = flat_map item_at ps

  abbrev pub layer_of : LayerTree → LayerOf R
  layer_of l = record { name = l.name; items = items_of l.tree }

  -- the layers in which these features stand at the places of their numbers
  abbrev pub filled : List LayerTree → List (LayerOf R)
  filled trees = map layer_of trees

-- the features of the document stand at the places of their numbers, and nothing else does
abbrev pub Fills : {R : Type 0} → List LayerTree → DocumentOf R → Type 0
Fills trees d = d.layers ≡ filled (feature d) trees

-- ---- features exchanged

-- the features, where these numbers have these ones, or none
abbrev pub exchanged_features : {R : Type 0} → List (ℕ × Option (FeatureOf R))
    → (ℕ → Option (FeatureOf R)) → ℕ → Option (FeatureOf R)
exchanged_features [] features m = features m
exchanged_features (c ∷ cs) features m =
    if m == c.0 then c.1 else exchanged_features cs features m

-- the number is one of these
abbrev pub is_exchanged : {R : Type 0} → List (ℕ × Option (FeatureOf R)) → ℕ → Bool
is_exchanged cs m = list_any (λ c. m == c.0) cs

-- each feature has the number that it is given for
abbrev pub AreNumbered : {R : Type 0} → List (ℕ × Option (FeatureOf R)) → Type 0
AreNumbered [] = Unit {0}
AreNumbered {R} (c ∷ cs) =
    ((f : FeatureOf R) → c.1 ≡ Some f → f.number ≡ c.0) × AreNumbered cs

-- the document in which these numbers have these features, or none, each in its place
abbrev pub exchanged : {R : Type 0} → List LayerTree → List (ℕ × Option (FeatureOf R))
    → DocumentOf R → DocumentOf R
exchanged trees cs d = record {
  transform = d.transform;
  layers = filled (exchanged_features cs (feature d)) trees;
  members = d.members;
}

-- what these numbers have in the document
abbrev pub had_before : {R : Type 0} → DocumentOf R → List (ℕ × Option (FeatureOf R))
    → List (ℕ × Option (FeatureOf R))
had_before d cs = map (λ c. (c.0, feature d c.0)) cs

-- the numbers with their features, each feature changed
abbrev pub with_changed : {R S : Type 0} → (FeatureOf R → FeatureOf S)
    → List (ℕ × Option (FeatureOf R)) → List (ℕ × Option (FeatureOf S))
with_changed g cs = map (λ c. (c.0, option_map g c.1)) cs

-- ---- a new number

-- the number, and the new one after n
abbrev pub with_new : ℕ → ℕ → Place → List Place
with_new n new (Number m) = if m == n then Number n ∷ Number new ∷ [] else (Number m ∷ [])
with_new n new (Begins h) = Begins h ∷ []
with_new n new Ends = Ends ∷ []
with_new n new (Text_of t) = Text_of t ∷ []

abbrev pub tree_with : ℕ → ℕ → Tree → Tree
tree_with n new (Alone m) = Alone m
tree_with n new (Places ps) = Places (flat_map (with_new n new) ps)

-- the new number stands directly after n, where n is in a collection
abbrev pub grown : ℕ → ℕ → List LayerTree → List LayerTree
grown n new trees = map (λ l. record { name = l.name; tree = tree_with n new l.tree }) trees
