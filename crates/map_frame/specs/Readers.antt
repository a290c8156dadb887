-- What is shown of a document beside its positions: its layers, its features, and where a ring stands.
use Rattle.std.specs.Prelude.{ℕ, List, map, length, Option, None, Some, option_map, slice_get}
use Rattle.ring_machine.specs.Common.{Text, Form, Member, Head, FeatureOf, ItemOf, Open, Close, Leaf, Kept, LayerOf}
use Rattle.ring_machine.specs.Common.{DocumentOf, feature}

-- ---- features

-- a feature without its rings: by polygon how many rings there are
pub record Shown : Type 0 where
  pub id : Option Text
  pub form : Form
  pub properties : Option Text
  pub members : List Member
  pub rings : List ℕ

-- what is shown of a feature
abbrev pub shown : {R : Type 0} → FeatureOf R → Shown
shown f = record {
  id = f.id;
  form = f.form;
  properties = f.properties;
  members = f.members;
  rings = map length f.polygons;
}

-- ---- layers

-- an item as it is shown: a feature by its number
pub data ShownItem : Type 0 where
  Opens : Head → ShownItem
  Closes : ShownItem
  Stands : ℕ → ShownItem
  Keeps : Text → ShownItem

-- what is shown of an item
abbrev pub shown_item : {R : Type 0} → ItemOf R → ShownItem
shown_item (Open head) = Opens head
shown_item Close = Closes
shown_item (Leaf f) = Stands f.number
shown_item (Kept t) = Keeps t

-- a layer as it is shown: its items without the rings
pub record ShownLayer : Type 0 where
  pub name : Text
  pub items : List ShownItem

-- what a document is beside its rings
pub record ShownFrame : Type 0 where
  pub transform : Option Text
  pub layers : List ShownLayer
  pub members : List Member

-- what is shown of a layer
abbrev pub shown_layer : {R : Type 0} → LayerOf R → ShownLayer
shown_layer l = record { name = l.name; items = map shown_item l.items }

-- what is shown of a document beside its rings
abbrev pub shown_frame : {R : Type 0} → DocumentOf R → ShownFrame
shown_frame d = record {
  transform = d.transform;
  layers = map shown_layer d.layers;
  members = d.members;
}

-- ---- rings

-- the list's element with this number, where there is a list
abbrev pub element : {R : Type 0} → Option (List R) → ℕ → Option R
element None n = None
element (Some xs) n = slice_get xs n

-- the ring with this number of the polygon with this number of a feature, the outer ring first
abbrev pub frame_ring : {R : Type 0} → DocumentOf R → ℕ → ℕ → ℕ → Option R
frame_ring d n polygon ring = element (element (option_map (λ f. f.polygons) (feature d n)) polygon) ring
