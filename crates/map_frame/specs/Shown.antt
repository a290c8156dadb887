-- What is shown of the items of a layer that are still to come.
use Rattle.std.specs.Prelude.{ℕ, List, ◌++◌, map, Option}
use Rattle.std.specs.List.{flat_map}
use Rattle.topo_outline.specs.Common.{view_head}
use Rattle.map_frame.specs.declared.feature.Feature.{Feature}
use Rattle.map_frame.specs.declared.items.ItemView.{ItemView}
use Rattle.map_frame.specs.declared.items.ItemView.TheVariants as item
use Rattle.map_frame.specs.declared.tables.Slot.{Slot}
use Rattle.map_frame.specs.Readers.{ShownItem, Opens, Closes, Stands, Keeps, shown_item}
use Rattle.map_frame.specs.Seen.{items_at, leaf_of}

module _ {A : Type 0} where
  -- what the code gives of an item
  abbrev pub view_item_view : ItemView A → ShownItem
  view_item_view (item.Open head) = Opens (view_head head.now)
  view_item_view item.Close = Closes
  view_item_view (item.Leaf n) = Stands n
  view_item_view (item.Kept t) = Keeps t.now

  -- what is shown of the features with these numbers
  abbrev pub shown_leaves : List (Option (Feature A)) → List ℕ → List ShownItem
  shown_leaves features numbers = map shown_item (flat_map (leaf_of features) numbers)

  -- what is shown of the features with these numbers, and then of these slots
  abbrev pub shown_rest : List (Option (Feature A)) → List ℕ → List (Slot A) → List ShownItem
  shown_rest features numbers slots =
      shown_leaves features numbers ++ map shown_item (flat_map (items_at features) slots)
