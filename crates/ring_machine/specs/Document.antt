-- A document: layers of collections, features and kept texts.
-- A tree of geometries is the list of its items in the order of the text, between brackets.
use Rattle.std.specs.Prelude.{ℕ, List, Option}
use Rattle.grid_geometry.specs.Common.{Position}

-- the bytes of a piece of JSON that is kept as it stands
abbrev pub Text : Type 0
Text = List ℕ

-- what a feature's geometry is: a Polygon, a MultiPolygon, or an object whose type is null
-- (TopoJSON 1.0, 2.2)
pub data Form : Type 0 where
  Polygon MultiPolygon Null : Form

-- a member that the editor does not know: its name's token and its value's text
pub record Member : Type 0 where
  pub name : Text
  pub value : Text

-- a feature: a geometry object with its own number (TopoJSON 1.0, 2.2);
-- a polygon is its outer ring, then its holes (RFC 7946, 3.1.6)
pub record FeatureOf (R : Type 0) : Type 0 where
  pub number : ℕ
  pub id : Option Text
  pub form : Form
  pub properties : Option Text
  pub members : List Member
  pub polygons : List (List R)

-- what a geometry collection has beside its geometries (TopoJSON 1.0, 2.2.7)
pub record Head : Type 0 where
  pub id : Option Text
  pub properties : Option Text
  pub members : List Member

-- a part of a tree: a collection stands from its Open to the Close that belongs to it,
-- a Leaf is a feature, and a Kept is the text of a Point or a MultiPoint (TopoJSON 1.0, 2.2)
pub data ItemOf (R : Type 0) : Type 0 where
  Open : Head → ItemOf R
  Close : ItemOf R
  Leaf : FeatureOf R → ItemOf R
  Kept : Text → ItemOf R

-- a layer: a named geometry object of the topology's objects (TopoJSON 1.0, 2.1.5)
pub record LayerOf (R : Type 0) : Type 0 where
  pub name : Text
  pub items : List (ItemOf R)

-- a topology whose rings are of the kind R (TopoJSON 1.0, 2.1); its transform is kept (2.1.2)
pub record DocumentOf (R : Type 0) : Type 0 where
  pub transform : Option Text
  pub layers : List (LayerOf R)
  pub members : List Member

-- a feature whose rings are lists of positions
abbrev pub Feature : Type 0
Feature = FeatureOf (List Position)

-- an item whose rings are lists of positions
abbrev pub Item : Type 0
Item = ItemOf (List Position)

-- a layer whose rings are lists of positions
abbrev pub Layer : Type 0
Layer = LayerOf (List Position)

-- a document whose rings are lists of positions
abbrev pub Document : Type 0
Document = DocumentOf (List Position)
