-- Features and collections of them (RFC 7946, 3.2 and 3.3), and the layer_pieces that they become.
use Rattle.std.specs.Prelude.{List, [], ◌∷◌, ◌++◌, Bool, true, false, if◌then◌else◌, is_some, codes, Option, Some, None, option_and_then, Result, Ok}
use Rattle.json_spans.specs.Common.{Node, items, kind_of, decoded}
use Rattle.json_spans.specs.declared.kinds.Kind.{Kind}
use Rattle.json_spans.specs.declared.kinds.Kind.TheVariants as kind
use Rattle.topo_outline.specs.Common.{Fault, demand, ◌>>=◌, is_list, is_object}
use Rattle.geo_topology.specs.declared.words.Word.TheVariants as word
use Rattle.geo_topology.specs.declared.words.GeoType.{GeoType}
use Rattle.geo_topology.specs.declared.words.GeoType.TheVariants as geo
use Rattle.geo_topology.specs.declared.members.Owner.{Owner}
use Rattle.geo_topology.specs.declared.members.Owner.TheVariants as owner
use Rattle.geo_topology.specs.declared.object.GeoObject.{GeoObject}
use Rattle.geo_topology.specs.declared.object.GeoObject.TheVariants as object
use Rattle.geo_topology.specs.Members.{Named, members_once, member_with_word, expected_member, right_member, wrong_member, unless_member, barred}
use Rattle.geo_topology.specs.Pieces.{TextPiece, words, copied, separated, foreign}
use Rattle.geo_topology.specs.Geometries.{typed, front_pieces, geometry_pieces}

-- ---- a Feature

abbrev pub is_feature : GeoType → Bool
is_feature geo.Feature = true
is_feature _ = false

abbrev pub may_be_geometry : Kind → Bool
may_be_geometry kind.Null = true
may_be_geometry kind.Object = true
may_be_geometry _ = false

-- the member_with_word `geometry`, an object or null
abbrev pub geometry_member : List Named → Result Named Fault
geometry_member ms = do
  p ← typed ms
  m ← right_member (is_feature p.0) p.1
  unless_member (barred owner.Feature ms) (do
    v ← expected_member (codes "geometry") word.Geometry ms
    right_member (may_be_geometry (kind_of v.value.bytes)) v)

-- a Feature without geometry_pieces
abbrev pub empty : List Named → List TextPiece
empty ms = front_pieces geo.Other ms ++ (foreign owner.Feature ms ++ words (codes "}") ∷ [])

abbrev pub with_geometry : List Named → Node → Result (List TextPiece) Fault
with_geometry ms value = if is_object value then geometry_pieces 100 ms value else Ok (empty ms)

unfoldable pub feature_pieces : Node → Result (List TextPiece) Fault
feature_pieces n = do
  ms ← members_once n
  v ← geometry_member ms
  with_geometry ms v.value

-- ---- a FeatureCollection

-- its `name`, a string that stands for a text (RFC 8259, 7): GDAL writes the layer's there
abbrev pub name_if : Bool → Named → Option Named
name_if true m = Some m
name_if false m = None

abbrev pub layer_name : List Named → Option Named
layer_name ms =
    option_and_then (λ m. name_if (is_some (decoded m.value.bytes)) m) (member_with_word word.Name ms)

-- its `features`, a list
abbrev pub features_of : List Named → Result Named Fault
features_of ms = unless_member (barred owner.Collection ms) (do
  list ← expected_member (codes "features") word.Features ms
  right_member (is_list list.value) list)

abbrev pub feature_in_list : Named → Node → Result (List TextPiece) Fault
feature_in_list list part = demand (is_object part) (wrong_member list) (feature_pieces part)

-- ---- the layer_pieces

abbrev pub name_piece : Option Named → TextPiece
name_piece None = words (codes "\"features\"")
name_piece (Some m) = copied m.value

-- how the topology begins, up to the objects of its layer_pieces
abbrev pub layer_front : Option Named → List Named → List TextPiece
layer_front name ms =
    words (codes "{\"type\":\"Topology\",\"objects\":{") ∷ name_piece name ∷ words (codes ":")
    ∷ front_pieces geo.GeometryCollection ms ++ words (codes ",\"geometries\":[") ∷ []

abbrev pub collection_owner : Option Named → Owner
collection_owner None = owner.Collection
collection_owner (Some m) = owner.NamedCollection

-- what stands behind them
abbrev pub layer_end : Option Named → List Named → List TextPiece
layer_end name ms = words (codes "]") ∷ foreign (collection_owner name) ms

abbrev pub layered : Option Named → List Named → List TextPiece → List TextPiece
layered name ms ps = layer_front name ms ++ (ps ++ layer_end name ms)

abbrev pub collection : Node → Result (List TextPiece) Fault
collection n = do
  ms ← members_once n
  list ← features_of ms
  ps ← separated (feature_in_list list) true (items list.value)
  Ok (layered (layer_name ms) ms ps)

-- a Feature, or a geometry_pieces without one
abbrev pub single_object : GeoObject → Node → Result (List TextPiece) Fault
single_object object.Feature n = feature_pieces n
single_object _ n = geometry_pieces 100 [] n

abbrev pub alone : Result (List TextPiece) Fault → Result (List TextPiece) Fault
alone r = r >>= λ ps. Ok (layered None [] ps)

-- the topology up to its arcs: one layer_pieces, which a collection is, or in which a Feature or a geometry_pieces
-- stands alone
abbrev pub layer_pieces : GeoObject → Node → Result (List TextPiece) Fault
layer_pieces object.FeatureCollection n = collection n
layer_pieces o n = alone (single_object o n)
