-- Geometries (RFC 7946, 3.1), and the objects of the topology that they become.
use Rattle.std.specs.Prelude.{ℕ, zero, suc, List, [], ◌∷◌, ◌++◌, Bool, true, false, if◌then◌else◌, codes, Result, Ok, Err}
use Rattle.json_spans.specs.Common.{Node, items, decoded}
use Rattle.topo_outline.specs.Common.{Fault, too_deep, unsupported, demand, ◌>>=◌, text_from, unquoted, is_list, is_object, are_lists, are_lists_of_lists}
use Rattle.geo_topology.specs.Words.{type_named}
use Rattle.geo_topology.specs.declared.words.Word.{Word}
use Rattle.geo_topology.specs.declared.words.Word.TheVariants as word
use Rattle.geo_topology.specs.declared.words.GeoType.{GeoType}
use Rattle.geo_topology.specs.declared.words.GeoType.TheVariants as geo
use Rattle.geo_topology.specs.declared.members.Owner.TheVariants as owner
use Rattle.geo_topology.specs.Members.{Named, members_once, member_with_word, expected_member, right_member, wrong_member, unless_member, barred}
use Rattle.geo_topology.specs.Pieces.{TextPiece, words, copied, rings, polygons, separated, id_and_properties, foreign, inside}

-- what `type` says, a string, and that member_with_word (RFC 7946, 1.4)
abbrev pub typed : List Named → Result (GeoType × Named) Fault
typed ms = do
  m ← expected_member (codes "type") word.Type ms
  t ← text_from (wrong_member m) (decoded m.value.bytes)
  Ok (type_named t, m)

abbrev pub is_geometry_type : GeoType → Bool
is_geometry_type geo.FeatureCollection = false
is_geometry_type geo.Feature = false
is_geometry_type geo.Other = false
is_geometry_type _ = true

abbrev pub is_geometry_collection : GeoType → Bool
is_geometry_collection geo.GeometryCollection = true
is_geometry_collection _ = false

-- ---- the value

-- the member_with_word that the value is in: `geometries` of a collection (3.1.8), else `coordinates` (3.1.1)
abbrev pub value_word : GeoType → Word
value_word g = if is_geometry_collection g then word.Geometries else word.Coordinates

abbrev pub value_name : GeoType → List ℕ
value_name g = if is_geometry_collection g then codes "geometries" else codes "coordinates"

-- the one that it may not have (7.1)
abbrev pub other_word : GeoType → Word
other_word g = if is_geometry_collection g then word.Coordinates else word.Geometries

-- lists as the type asks: a polygon's rings (3.1.6), the polygons of several (3.1.7), geometries
abbrev pub has_shape : GeoType → Node → Bool
has_shape geo.Polygon n = are_lists n
has_shape geo.MultiPolygon n = are_lists_of_lists n
has_shape geo.GeometryCollection n = is_list n
has_shape _ n = true

abbrev pub geometry_type : List Named → Result GeoType Fault
geometry_type ms = do
  p ← typed ms
  demand (is_geometry_type p.0) (unsupported (unquoted p.1.value.bytes)) (Ok p.0)

abbrev pub value_member : GeoType → List Named → Result Named Fault
value_member g ms = do
  v ← expected_member (value_name g) (value_word g) ms
  unless_member (member_with_word (other_word g) ms) (right_member (has_shape g v.value) v)

-- the type of a geometry_pieces, and the member_with_word that it has its value in
abbrev pub typed_value : List Named → Result (GeoType × Named) Fault
typed_value ms = unless_member (barred owner.Geometry ms) (do
  g ← geometry_type ms
  v ← value_member g ms
  Ok (g, v))

-- ---- the object

abbrev pub object_front : GeoType → List ℕ
object_front geo.Point = codes "{\"type\":\"Point\""
object_front geo.MultiPoint = codes "{\"type\":\"MultiPoint\""
object_front geo.LineString = codes "{\"type\":\"LineString\""
object_front geo.MultiLineString = codes "{\"type\":\"MultiLineString\""
object_front geo.Polygon = codes "{\"type\":\"Polygon\""
object_front geo.MultiPolygon = codes "{\"type\":\"MultiPolygon\""
object_front geo.GeometryCollection = codes "{\"type\":\"GeometryCollection\""
object_front _ = codes "{\"type\":null"

-- the arcs or the coordinates_pieces; a line has none
abbrev pub coordinates_pieces : GeoType → Node → List TextPiece
coordinates_pieces geo.Polygon n = words (codes ",\"arcs\":") ∷ rings n ∷ []
coordinates_pieces geo.MultiPolygon n = words (codes ",\"arcs\":") ∷ polygons n ∷ []
coordinates_pieces geo.Point n = words (codes ",\"coordinates\":") ∷ copied n ∷ []
coordinates_pieces geo.MultiPoint n = words (codes ",\"coordinates\":") ∷ copied n ∷ []
coordinates_pieces _ n = []

-- how the object begins and ends that a Feature with these members and its geometry_pieces become
abbrev pub front_pieces : GeoType → List Named → List TextPiece
front_pieces g feature = words (object_front g) ∷ id_and_properties feature

abbrev pub tail : List Named → List Named → List TextPiece
tail feature ms = foreign owner.Feature feature ++ (inside false ms ++ words (codes "}") ∷ [])

abbrev pub single_pieces : GeoType → Node → List Named → List Named → List TextPiece
single_pieces g value feature ms = front_pieces g feature ++ (coordinates_pieces g value ++ tail feature ms)

abbrev pub collection_pieces : List Named → List Named → List TextPiece → List TextPiece
collection_pieces feature ms ps =
    front_pieces geo.GeometryCollection feature ++ (words (codes ",\"geometries\":[") ∷ []
    ++ (ps ++ (words (codes "]") ∷ tail feature ms)))

abbrev pub by_geometry_type : List Named → Node → (List Named → Named → Result (List TextPiece) Fault) →
    Result (List TextPiece) Fault
by_geometry_type feature n group = do
  ms ← members_once n
  p ← typed_value ms
  if is_geometry_collection p.0 then group ms p.1 else Ok (single_pieces p.0 p.1.value feature ms)

-- the object of a geometry_pieces with the members of its Feature, if it has one; the depth is more than any
-- text of 100 levels has
unfoldable pub geometry_pieces : ℕ → List Named → Node → Result (List TextPiece) Fault
geometry_pieces zero feature n = by_geometry_type feature n (λ ms list. Err (too_deep n.at_byte))
geometry_pieces (suc d) feature n = by_geometry_type feature n (λ ms list. do
  ps ← separated (λ part. demand (is_object part) (wrong_member list) (geometry_pieces d [] part)) true
      (items list.value)
  Ok (collection_pieces feature ms ps))
