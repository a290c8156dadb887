-- What a mended document is: its rings led along paths, its polygons taken apart where that made
-- them no rings, and nothing else.
use Rattle.std.specs.Prelude.{◌≡◌, ℕ, ◌==◌, List, map, flat_map, length, if◌then◌else◌}
use Rattle.std.specs.List.{AllZip}
use Rattle.grid_geometry.specs.Common.{Position}
use Rattle.ring_machine.specs.Common.{Form, Polygon, MultiPolygon, Null, Feature, Item, Open, Close, Leaf, Kept, Layer}
use Rattle.ring_machine.specs.Common.{Document}
use Rattle.topo_reader.specs.Common.{Polygons}
use Rattle.segment_paths.specs.Common.{PathOfSegment}
use Rattle.walk_mending.specs.Common.{laid, IsMended}

-- the polygons that stand in the place of one: its walks are led along the paths, and mended
abbrev pub MendsPolygon : List PathOfSegment → List (List Position) → Polygons → Type 0
MendsPolygon paths walks parts = IsMended (map (laid paths) walks) parts

-- the polygons of all parts, in order
abbrev pub polygons_of_parts : List Polygons → Polygons
polygons_of_parts parts = flat_map (λ part. part) parts

-- the polygons that stand in the place of a feature's: each mended, in order
pub record MendsPolygons (paths : List PathOfSegment) (walks polygons : Polygons) : Type 0 where
  pub parts : List Polygons
  pub mended : AllZip (MendsPolygon paths) walks parts
  pub joins : polygons ≡ polygons_of_parts parts

-- a Polygon that has not exactly one polygon becomes a MultiPolygon (TopoJSON 1.0, 2.2.5 and
-- 2.2.6), and nothing else changes its form
abbrev pub form_after : Form → ℕ → Form
form_after Polygon count = if count == 1 then Polygon else MultiPolygon
form_after MultiPolygon count = MultiPolygon
form_after Null count = Null

-- the feature with other polygons, and the form that they ask for
abbrev pub with_mended_polygons : Feature → Polygons → Feature
with_mended_polygons f polygons = record {
  number = f.number;
  id = f.id;
  form = form_after f.form (length polygons);
  properties = f.properties;
  members = f.members;
  polygons = polygons;
}

-- g is the feature f with its polygons mended
pub record MendsFeature (paths : List PathOfSegment) (f g : Feature) : Type 0 where
  pub polygons : Polygons
  pub mended : MendsPolygons paths f.polygons polygons
  pub result : g ≡ with_mended_polygons f polygons

-- a feature is mended, and what else stands in a layer stays as it is
abbrev pub MendsItem : List PathOfSegment → Item → Item → Type 0
MendsItem paths (Leaf f) j = (g : Feature) × MendsFeature paths f g × (j ≡ Leaf g)
MendsItem paths (Open head) j = j ≡ Open head
MendsItem paths Close j = j ≡ Close
MendsItem paths (Kept text) j = j ≡ Kept text

-- the layer keeps its name, and its items are mended in order
pub record MendsLayer (paths : List PathOfSegment) (l m : Layer) : Type 0 where
  pub name : m.name ≡ l.name
  pub items : AllZip (MendsItem paths) l.items m.items

-- e is the document d with its features mended: all else is as it was, byte for byte
pub record Mended (paths : List PathOfSegment) (d e : Document) : Type 0 where
  pub transform : e.transform ≡ d.transform
  pub layers : AllZip (MendsLayer paths) d.layers e.layers
  pub members : e.members ≡ d.members
