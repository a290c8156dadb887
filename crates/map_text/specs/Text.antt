-- The text of a document. No white space stands between tokens that are not kept texts.
use Rattle.std.specs.Prelude.{ℤ, pos, ◌-ℤ◌, Bool, true, false, List, [], ◌∷◌, ◌++◌, map, Option}
use Rattle.std.specs.Prelude.{None, Some, is_some, codes}
use Rattle.std.specs.List.{flat_map}
use Rattle.std.specs.Fmt.{signed_decimal}
use Rattle.grid_geometry.specs.Common.{Position, position}
use Rattle.ring_machine.specs.Common.{Text, Form, Polygon, MultiPolygon, Null, Member, Head, FeatureOf, ItemOf, Open}
use Rattle.ring_machine.specs.Common.{Close, Leaf, Kept, LayerOf, DocumentOf, Document}
use Rattle.map_text.specs.Arcs.{arcs_of, indexed}

-- ---- lists and objects (RFC 8259, 4 and 5)

-- each of the texts with a comma before it
abbrev pub further : List Text → Text
further ts = flat_map (λ t. codes "," ++ t) ts

-- the texts with commas between them
abbrev pub commas : List Text → Text
commas [] = []
commas (t ∷ ts) = t ++ further ts

-- the list of these values
abbrev pub list_text : List Text → Text
list_text values = codes "[" ++ (commas values ++ codes "]")

-- a member: its name's token, a colon, and its value
abbrev pub member_text : Member → Text
member_text m = m.name ++ (codes ":" ++ m.value)

-- the object with these members
abbrev pub object_text : List Member → Text
object_text members = codes "{" ++ (commas (map member_text members) ++ codes "}")

-- a member of this name
abbrev pub member : Text → Text → Member
member name value = record { name = name; value = value }

-- a member that need not be there
abbrev pub member_if : Text → Option Text → List Member
member_if name None = []
member_if name (Some value) = member name value ∷ []

-- ---- arcs (TopoJSON 1.0, 2.1.1 to 2.1.3)

-- a pair of whole numbers
abbrev pub pair_text : Position → Text
pair_text p = list_text (signed_decimal p.x ∷ signed_decimal p.y ∷ [])

-- each position less the one before it
abbrev pub differences : Position → List Position → List Position
differences before [] = []
differences before (p ∷ ps) =
    position (p.x -ℤ before.x) (p.y -ℤ before.y) ∷ differences p ps

-- the pairs of an arc: with a transform the first position and then differences, without one the
-- positions themselves
abbrev pub pairs : Bool → List Position → List Position
pairs true ps = differences (position (pos 0) (pos 0)) ps
pairs false ps = ps

-- an arc; whether there is a transform
abbrev pub arc_text : Bool → List Position → Text
arc_text delta ps = list_text (map pair_text (pairs delta ps))

-- the list of the arcs
abbrev pub arcs_text : Bool → List (List Position) → Text
arcs_text delta arcs = list_text (map (arc_text delta) arcs)

-- ---- features, their rings being lists of indexes (TopoJSON 1.0, 2.2)

-- a ring
abbrev pub ring_text : List ℤ → Text
ring_text indexes = list_text (map signed_decimal indexes)

-- a polygon: its outer ring and its holes
abbrev pub polygon_text : List (List ℤ) → Text
polygon_text rings = list_text (map ring_text rings)

-- the value of `type`
abbrev pub type_text : Form → Text
type_text Polygon = codes "\"Polygon\""
type_text MultiPolygon = codes "\"MultiPolygon\""
type_text Null = codes "null"

-- the value of `arcs`: the one polygon, or the list of the polygons, or nothing
abbrev pub shape_text : Form → List (List (List ℤ)) → Option Text
shape_text Null polygons = None
shape_text MultiPolygon polygons = Some (list_text (map polygon_text polygons))
shape_text Polygon [] = Some (polygon_text [])
shape_text Polygon (polygon ∷ others) = Some (polygon_text polygon)

-- a feature
abbrev pub feature_text : FeatureOf (List ℤ) → Text
feature_text f = object_text (
    member (codes "\"type\"") (type_text f.form)
    ∷ (member_if (codes "\"id\"") f.id
    ++ (member_if (codes "\"properties\"") f.properties
    ++ (member_if (codes "\"arcs\"") (shape_text f.form f.polygons)
    ++ f.members))))

-- ---- collections (TopoJSON 1.0, 2.2.7)

-- the members of a collection that stand before its geometries
abbrev pub members_before : Head → List Member
members_before h =
    member (codes "\"type\"") (codes "\"GeometryCollection\"")
    ∷ (member_if (codes "\"id\"") h.id ++ member_if (codes "\"properties\"") h.properties)

-- a collection up to the begin of the list of its geometries
abbrev pub opening_text : Head → Text
opening_text h =
    codes "{" ++ (commas (map member_text (members_before h)) ++ codes ",\"geometries\":[")

-- a collection from the end of the list of its geometries on
abbrev pub closing_text : Head → Text
closing_text h = codes "]" ++ (further (map member_text h.members) ++ codes "}")

-- a comma where something stands before
abbrev pub comma_if : Bool → Text
comma_if true = codes ","
comma_if false = []

-- the items one after another, in the collections that are open, the innermost first; whether
-- something stands before them in that one
abbrev pub items_text : List Head → Bool → List (ItemOf (List ℤ)) → Text
items_text heads more [] = []
items_text heads more (Open h ∷ items) =
    comma_if more ++ (opening_text h ++ items_text (h ∷ heads) false items)
items_text [] more (Close ∷ items) = []
items_text (h ∷ heads) more (Close ∷ items) = closing_text h ++ items_text heads true items
items_text heads more (Leaf f ∷ items) =
    comma_if more ++ (feature_text f ++ items_text heads true items)
items_text heads more (Kept t ∷ items) = comma_if more ++ (t ++ items_text heads true items)

-- ---- the topology (TopoJSON 1.0, 2.1)

-- a layer: its name's token, and its geometry
abbrev pub layer_member : LayerOf (List ℤ) → Member
layer_member l = member l.name (items_text [] false l.items)

-- the text, given the arcs and the document with each ring as the indexes of its arcs
abbrev pub text_with : List (List Position) → DocumentOf (List ℤ) → Text
text_with arcs d = object_text (
    member (codes "\"type\"") (codes "\"Topology\"")
    ∷ (member_if (codes "\"transform\"") d.transform
    ++ (member (codes "\"objects\"") (object_text (map layer_member d.layers))
    ∷ (member (codes "\"arcs\"") (arcs_text (is_some d.transform) arcs)
    ∷ d.members))))

-- the text of a document
abbrev pub text_of : Document → Text
text_of d = text_with (arcs_of d) (indexed d)
