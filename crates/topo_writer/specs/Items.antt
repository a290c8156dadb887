-- The items of a layer, as they are shown and as they are written.
use Rattle.std.specs.Prelude.{◌≡◌, ℕ, ℤ, ◌+◌, ◌≤◌, List, [], ◌∷◌, ◌++◌, map, reverse, length}
use Rattle.std.specs.Prelude.{None, Some, unwrap_or, Contains}
use Rattle.std.specs.Borrow.{Bor}
use Rattle.std.specs.List.{flat_map, filter_map, sum_by}
use Rattle.grid_geometry.specs.Common.{Position}
use Rattle.ring_machine.specs.Common.{Document, Feature, Null, Head, ItemOf, Item, Layer, Text, Open, Close, Leaf, Kept}
use Rattle.ring_machine.specs.Common.{feature, feature_of, rings_of, in_item, in_feature, is_junction}
use Rattle.topo_outline.specs.declared.document.Head.{Head as CodeHead}
use Rattle.topo_outline.specs.Common.{view_head}
use Rattle.map_frame.specs.declared.items.ItemView.{ItemView}
use Rattle.map_frame.specs.Common.{ShownItem, Opens, Closes, Stands, Keeps, shown_item, view_item_view}
use Rattle.map_text.specs.Common.{arcs_of, indexes}
use Rattle.topo_writer.specs.Ways.{arcs_with, written_feature}

-- ---- items as they are shown

-- a feature with nothing but its number
abbrev pub bare : ℕ → Feature
bare n = record {
  number = n;
  id = None;
  form = Null;
  properties = None;
  members = [];
  polygons = [];
}

-- the feature with this number; a bare one where no feature has it
abbrev pub feature_or_bare : Document → ℕ → Feature
feature_or_bare d n = unwrap_or (feature d n) (bare n)

-- the item of the document that is shown so
abbrev pub item_at : Document → ShownItem → Item
item_at d (Opens h) = Open h
item_at d Closes = Close
item_at d (Stands n) = Leaf (feature_or_bare d n)
item_at d (Keeps t) = Kept t

-- the items of the document that are shown so
abbrev pub items_at : Document → List ShownItem → List Item
items_at d items = map (item_at d) items

-- where a feature is shown, the document has it
abbrev pub IsThere : Document → ShownItem → Type 0
IsThere d (Opens h) = Unit {0}
IsThere d Closes = Unit {0}
IsThere d (Stands n) = feature d n ≡ Some (feature_or_bare d n)
IsThere d (Keeps t) = Unit {0}

-- the items are shown of a layer of the document
pub record ShowsLayer (d : Document) (items : List ShownItem) : Type 0 where
  pub layer : Layer
  pub there : Contains d.layers layer
  pub shows : items ≡ map shown_item layer.items

-- ---- items as they are written

-- the item by the indexes of its rings' arcs in the text of the document
abbrev pub written_item : Document → Item → ItemOf (List ℤ)
written_item d i = in_item (in_feature (indexes (is_junction d) (arcs_of d))) i

-- the item that is shown so, as it is written
abbrev pub written_at : Document → ShownItem → ItemOf (List ℤ)
written_at d s = written_item d (item_at d s)

-- the items that are shown so, as they are written
abbrev pub items_written : Document → List ShownItem → List (ItemOf (List ℤ))
items_written d items = map (written_at d) items

-- the one item that is seen, as it is written
abbrev pub written : {A : Type 0} → Document → ItemView A → List (ItemOf (List ℤ))
written d item = items_written d (view_item_view item ∷ [])

-- the text of the feature with this number, by the indexes of the document's arcs
abbrev pub leaf_text : Document → ℕ → Text
leaf_text d n = written_feature (is_junction d) (arcs_of d) (feature_or_bare d n)

-- the heads of open collections, the innermost first; they are kept with the innermost last
abbrev pub open_heads : {A : Type 0} → List (Bor (CodeHead A)) → List Head
open_heads heads = reverse (map (λ h. view_head h.now) heads)

-- ---- the arcs of items

-- the rings of the features among the items
abbrev pub item_rings : List Item → List (List Position)
item_rings items = flat_map rings_of (filter_map feature_of items)

-- with the pieces of these items' rings and of later rings the arcs so far become those of the
-- document, and there are not too many
pub record LeadsOn (d : Document) (arcs : List (List Position)) (items : List Item) : Type 0 where
  pub later : List (List Position)
  pub few : length arcs + sum_by length (item_rings items ++ later) ≤ 4000000
  pub whole : arcs_of d ≡ arcs_with d arcs (item_rings items ++ later)
