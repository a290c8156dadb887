-- The table of a text's arcs, as it stands beside the document that is sent. It keeps no positions
-- but the names of the rings that were cut: its arcs are the pieces of these, each border once. Of
-- the arcs it keeps their text.
use Rattle.std.specs.Prelude.{◌≡◌, ◌≤◌, ◌+◌, ℕ, List, [], ◌∷◌, length, is_some}
use Rattle.std.specs.List.{sum_by}
use Rattle.indexmap.specs.IndexMap.{get}
use Rattle.grid_geometry.specs.Common.{Position}
use Rattle.ring_machine.specs.Common.{Document, rings_of, edge_eq}
use Rattle.map_frame.specs.declared.items.ItemView.{ItemView}
use Rattle.map_frame.specs.Common.{ShownItem, view_item_view}
use Rattle.map_text.specs.Common.{with_pieces}
use Rattle.topo_writer.specs.declared.arcs.Arcs.{Arcs}
use Rattle.topo_writer.specs.declared.arcs.RingName.{RingName}
use Rattle.topo_writer.specs.Found.{HasArcs}
use Rattle.topo_writer.specs.Items.{feature_or_bare, item_rings, items_at, LeadsOn}
use Rattle.topo_writer.specs.Named.{arcs_along, listed_arcs, named_pieces, named_ring}
use Rattle.topo_writer.specs.Reading.{all_rings_at, rings_at}
use Rattle.topo_writer.specs.Ways.{arcs_with}

module _ {A : Type 0} where
  -- ---- what stands in the table

  -- the arcs that stand so far in the table
  abbrev pub arcs_in : Document → Arcs A → List (List Position)
  arcs_in d table = arcs_along d table.rings.items

  -- the table finds exactly these arcs, each by the edges that it begins and ends with, and has
  -- their texts
  pub record Finds (table : Arcs A) (arcs : List (List Position)) : Type 0 where
    pub has : HasArcs (get edge_eq table.starts) table.count arcs
    pub listed : table.listed.items ≡ listed_arcs table.delta arcs

  -- the table finds exactly the arcs that stand in it, and writes them as the document's arcs are
  -- written: as differences where there is a transform
  pub record FindsArcs (d : Document) (table : Arcs A) : Type 0 where
    pub finds : Finds table (arcs_in d table)
    pub delta : table.delta ≡ is_some d.transform

  -- ---- room for more arcs: a ring has at most as many pieces as positions

  -- with the pieces of the ring the arcs are four million at most
  abbrev pub HasRoomForRing : Document → Arcs A → RingName → Type 0
  HasRoomForRing d table name = length (arcs_in d table) + length (named_ring d name) ≤ 4000000

  -- with the pieces of these rings the arcs are four million at most
  abbrev pub HasRoom : Document → Arcs A → List (List Position) → Type 0
  HasRoom d table rings = length (arcs_in d table) + sum_by length rings ≤ 4000000

  -- with the rings of these items and of later ones the arcs become those of the document
  abbrev pub Leads : Document → Arcs A → List ShownItem → Type 0
  Leads d table items = LeadsOn d (arcs_in d table) (items_at d items)

  -- ---- what a table takes: its arcs become those that stand after these rings were cut too

  -- the table takes the ring that is named so
  abbrev pub TakesRing : Document → Arcs A → Arcs A → RingName → Type 0
  TakesRing d old new name = arcs_in d new ≡ with_pieces (arcs_in d old) (named_pieces d name)

  -- the table takes these rings
  abbrev pub TakesRings : Document → Arcs A → Arcs A → List (List Position) → Type 0
  TakesRings d old new rings = arcs_in d new ≡ arcs_with d (arcs_in d old) rings

  -- the table takes the polygon with this number of a feature
  abbrev pub TakesPolygon : Document → Arcs A → Arcs A → ℕ → ℕ → Type 0
  TakesPolygon d old new n polygon = TakesRings d old new (rings_at d n polygon)

  -- the table takes all polygons of a feature
  abbrev pub TakesPolygons : Document → Arcs A → Arcs A → ℕ → Type 0
  TakesPolygons d old new n = TakesRings d old new (all_rings_at d n)

  -- the table takes a feature; nothing where no feature has the number
  abbrev pub TakesFeature : Document → Arcs A → Arcs A → ℕ → Type 0
  TakesFeature d old new n = TakesRings d old new (rings_of (feature_or_bare d n))

  -- the table takes the features among these items
  abbrev pub TakesItems : Document → Arcs A → Arcs A → List ShownItem → Type 0
  TakesItems d old new items = TakesRings d old new (item_rings (items_at d items))

  -- the table takes the feature that the item is, if it is one
  abbrev pub TakesItem : {B : Type 0} → Document → Arcs A → Arcs A → ItemView B → Type 0
  TakesItem d old new item = TakesItems d old new (view_item_view item ∷ [])
