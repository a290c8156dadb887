-- What the code of a frame means.
use Rattle.std.specs.Prelude.{ℕ, List, [], ◌∷◌, map, length, Option, None, Some, option_map, slice_get}
use Rattle.std.specs.List.{flat_map}
use Rattle.ring_machine.specs.Common.{FeatureOf, ItemOf, Open, Close, Leaf, Kept, LayerOf, DocumentOf}
use Rattle.edit_records.specs.Common.{Place, Begins, Ends, Text_of, Number, Tree, Alone, Places, LayerTree, or_empty}
use Rattle.topo_outline.specs.Common.{view_head, view_kept}
use Rattle.map_frame.specs.Numbers.{feature_numbers}
use Rattle.map_frame.specs.declared.feature.Feature.{Feature}
use Rattle.map_frame.specs.declared.tables.Slot.{Slot}
use Rattle.map_frame.specs.declared.tables.Slot.TheVariants as slot
use Rattle.map_frame.specs.declared.tables.Geometry.{Geometry}
use Rattle.map_frame.specs.declared.tables.Geometry.TheVariants as geometry
use Rattle.map_frame.specs.declared.tables.Layer.{Layer}
use Rattle.map_frame.specs.declared.tables.Tables.{Tables}
use Rattle.map_frame.specs.Framed.{Framed}
use Rattle.map_frame.specs.Texts.{with_texts}

module _ {A : Type 0} where
  -- the feature with this number
  abbrev pub view_feature : ℕ → Feature A → FeatureOf ℕ
  view_feature n f = with_texts n f.texts (feature_numbers f.polygons)

  -- the leaf of the feature with this number, and nothing where it was taken out
  abbrev pub leaf_of : List (Option (Feature A)) → ℕ → List (ItemOf ℕ)
  leaf_of features n = there (slice_get features n)
    where
      there : Option (Option (Feature A)) → List (ItemOf ℕ)
      there (Some (Some f)) = Leaf (view_feature n f) ∷ []
      there (Some None) = []
      there None = []

  -- the items of a slot
  abbrev pub items_at : List (Option (Feature A)) → Slot A → List (ItemOf ℕ)
  items_at features (slot.Open h) = Open (view_head h) ∷ []
  items_at features slot.Close = Close ∷ []
  items_at features (slot.Kept t) = Kept t.now ∷ []
  items_at features (slot.Leaves numbers) = flat_map (leaf_of features) numbers.items

  -- the items of a layer
  abbrev pub items_of : List (Option (Feature A)) → Geometry A → List (ItemOf ℕ)
  items_of features (geometry.Alone n) = or_empty (leaf_of features n)
  items_of features (geometry.Items slots) = flat_map (items_at features) slots.items

  abbrev pub view_layer : List (Option (Feature A)) → Layer A → LayerOf ℕ
  view_layer features l = record { name = l.name.now; items = items_of features l.geometry }

  -- the document with a number in the place of each ring
  abbrev pub doc_of : Tables A → DocumentOf ℕ
  doc_of f = record {
    transform = option_map (λ t. t.now) f.transform;
    layers = map (view_layer f.features.items) f.layers.items;
    members = map view_kept f.members.items;
  }

  -- ---- places

  -- the places of a slot
  abbrev pub places_at : Slot A → List Place
  places_at (slot.Open h) = Begins (view_head h) ∷ []
  places_at slot.Close = Ends ∷ []
  places_at (slot.Kept t) = Text_of t.now ∷ []
  places_at (slot.Leaves numbers) = map Number numbers.items

  abbrev pub tree_of : Geometry A → Tree
  tree_of (geometry.Alone n) = Alone n
  tree_of (geometry.Items slots) = Places (flat_map places_at slots.items)

  abbrev pub layer_tree : Layer A → LayerTree
  layer_tree l = record { name = l.name.now; tree = tree_of l.geometry }

  -- the places of all numbers that a feature ever had
  abbrev pub places_of : List (Layer A) → List LayerTree
  places_of layers = map layer_tree layers

  abbrev pub framed : Tables A → Framed
  framed f = record {
    doc = doc_of f;
    next = length f.features.items;
    places = places_of f.layers.items;
    room = length f.names.items;
  }
