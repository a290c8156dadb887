-- The parts of a document, and changes in every place of it.
use Rattle.std.specs.Prelude.{ℕ, Bool, ◌==◌, List, map, length, Option, None, Some}
use Rattle.std.specs.List.{list_any, flat_map, filter_map, sum_by, find}
use Rattle.grid_geometry.specs.Common.{Position, Segment, segment_eq}
use Rattle.ring_machine.specs.Ring.{segments, has}
use Rattle.ring_machine.specs.Document.{FeatureOf, ItemOf, Open, Close, Leaf, Kept, LayerOf}
use Rattle.ring_machine.specs.Document.{DocumentOf, Document}

-- ---- features

-- the feature of a leaf
abbrev pub feature_of : {R : Type 0} → ItemOf R → Option (FeatureOf R)
feature_of (Leaf f) = Some f
feature_of (Open h) = None
feature_of Close = None
feature_of (Kept t) = None

-- the features in the order of the text, collections walked depth first (TopoJSON 1.0, 2.2.7)
abbrev pub features : {R : Type 0} → DocumentOf R → List (FeatureOf R)
features d = flat_map (λ l. filter_map feature_of l.items) d.layers

-- the feature with this number
abbrev pub feature : {R : Type 0} → DocumentOf R → ℕ → Option (FeatureOf R)
feature d n = find (λ f. f.number == n) (features d)

-- some feature has this number
abbrev pub has_feature : {R : Type 0} → DocumentOf R → ℕ → Bool
has_feature d n = list_any (λ f. f.number == n) (features d)

-- ---- rings, positions and segments

-- the rings of a feature, polygon after polygon
abbrev pub rings_of : {R : Type 0} → FeatureOf R → List R
rings_of f = flat_map (λ polygon. polygon) f.polygons

-- every ring of the document, as often as it stands there
abbrev pub rings : {R : Type 0} → DocumentOf R → List R
rings d = flat_map rings_of (features d)

-- every position of every ring, as often as it stands there
abbrev pub positions : Document → List Position
positions d = flat_map (λ ring. ring) (rings d)

-- every segment of every ring, as often as it stands there
abbrev pub all_segments : Document → List Segment
all_segments d = flat_map segments (rings d)

-- the number of positions of all rings, each ring counted for itself
abbrev pub size : Document → ℕ
size d = sum_by length (rings d)

-- p is a vertex of the map: it stands in some ring
abbrev pub is_vertex : Document → Position → Bool
is_vertex d p = list_any (λ ring. has ring p) (rings d)

-- s is a segment of some ring
abbrev pub is_segment : Document → Segment → Bool
is_segment d s = list_any (segment_eq s) (all_segments d)

-- ---- changes in every place

-- the feature with each ring changed
abbrev pub in_feature : {R S : Type 0} → (R → S) → FeatureOf R → FeatureOf S
in_feature g f = record {
  number = f.number;
  id = f.id;
  form = f.form;
  properties = f.properties;
  members = f.members;
  polygons = map (map g) f.polygons;
}

-- the item with its feature changed
abbrev pub in_item : {R S : Type 0} → (FeatureOf R → FeatureOf S) → ItemOf R → ItemOf S
in_item g (Leaf f) = Leaf (g f)
in_item g (Open h) = Open h
in_item g Close = Close
in_item g (Kept t) = Kept t

-- the layer with its items changed
abbrev pub in_layer : {R S : Type 0}
    → (List (ItemOf R) → List (ItemOf S)) → LayerOf R → LayerOf S
in_layer g l = record { name = l.name; items = g l.items }

-- the document with the items of each layer changed
abbrev pub in_items : {R S : Type 0}
    → (List (ItemOf R) → List (ItemOf S)) → DocumentOf R → DocumentOf S
in_items g d =
    record { transform = d.transform; layers = map (in_layer g) d.layers; members = d.members }

-- the document with each feature changed in its place
abbrev pub in_features : {R S : Type 0} → (FeatureOf R → FeatureOf S) → DocumentOf R → DocumentOf S
in_features g d = in_items (map (in_item g)) d

-- the document with each ring changed in its place
abbrev pub in_rings : {R S : Type 0} → (R → S) → DocumentOf R → DocumentOf S
in_rings g d = in_features (in_feature g) d
