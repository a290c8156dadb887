-- What GeoJSON objects become, and where their copied parts stand, worked out.
use Rattle.kit_words.proofs.Common.{refl, ◌≡◌, ℕ, List, [], ◌∷◌, codes, Err, Some, None, digits}
use Rattle.json_spans.specs.Common.{Node}
use Rattle.json_spans.specs.Parts.{part_len, parts_from}
use Rattle.topo_outline.specs.Common.{bad_member}
use Rattle.geo_topology.specs.declared.words.Word.{Word}
use Rattle.geo_topology.specs.declared.words.Word.TheVariants as word
use Rattle.geo_topology.specs.declared.words.GeoType.TheVariants as geo
use Rattle.geo_topology.specs.declared.members.Owner.TheVariants as owner
use Rattle.geo_topology.specs.Members.{Named, barred}
use Rattle.geo_topology.specs.Pieces.{TextPiece}
use Rattle.geo_topology.specs.Geometries.{value_member, single_pieces}
use Rattle.geo_topology.specs.Features.{empty, layered}
use Rattle.geo_topology.specs.Text.{CopiedPart, segments_text, text_segments, segments_from, ring_texts, polygon_texts, ring_segments, made_by_segments, copies_from}
use Rattle.geo_topology.specs.Places.{in_file}

-- ---- a value at place 7, and members

abbrev at : ℕ → List ℕ → Node
at place bytes = record { at_byte = place; bytes = bytes }

abbrev member_at : Word → List ℕ → List ℕ → Named
member_at w name value = record { word = w; name = at 3 name; value = at 7 value }

abbrev text_alone : List TextPiece → List ℕ
text_alone ps = segments_text (text_segments (layered None [] ps))

-- ---- texts

polygon_alone : text_alone (single_pieces geo.Polygon (at 7 (codes "[[[0,0],[4,0],[4,4],[0,0]]]")) [] []) ≡ codes "{\"type\":\"Topology\",\"objects\":{\"features\":{\"type\":\"GeometryCollection\",\"geometries\":[{\"type\":\"Polygon\",\"arcs\":[[0]]}]}},\"arcs\":[[[0,0],[4,0],[4,4],[0,0]]]}"
unfolding segments_from ring_texts ring_segments part_len parts_from digits
polygon_alone = refl

several_polygons : text_alone (single_pieces geo.MultiPolygon (at 7 (codes "[[[1],[2]],[[3] ]]")) [] []) ≡ codes "{\"type\":\"Topology\",\"objects\":{\"features\":{\"type\":\"GeometryCollection\",\"geometries\":[{\"type\":\"MultiPolygon\",\"arcs\":[[[0],[1]],[[2]]]}]}},\"arcs\":[[1],[2],[3]]}"
unfolding segments_from ring_texts polygon_texts ring_segments part_len parts_from digits
several_polygons = refl

no_polygon : text_alone (single_pieces geo.MultiPolygon (at 7 (codes "[]")) [] []) ≡ codes "{\"type\":\"Topology\",\"objects\":{\"features\":{\"type\":\"GeometryCollection\",\"geometries\":[{\"type\":\"MultiPolygon\",\"arcs\":[]}]}},\"arcs\":[]}"
unfolding segments_from polygon_texts ring_segments part_len parts_from
no_polygon = refl

-- a point with a height, in a Feature with an id, properties, a bbox and a foreign member
point_of_feature : text_alone (single_pieces geo.Point (at 7 (codes "[1.5,2,7]")) (member_at word.Id (codes "\"id\"") (codes "3") ∷ member_at word.Bbox (codes "\"bbox\"") (codes "[]") ∷ member_at word.Other (codes "\"title\"") (codes "\"t\"") ∷ member_at word.Properties (codes "\"properties\"") (codes "null") ∷ []) []) ≡ codes "{\"type\":\"Topology\",\"objects\":{\"features\":{\"type\":\"GeometryCollection\",\"geometries\":[{\"type\":\"Point\",\"id\":3,\"properties\":null,\"coordinates\":[1.5,2,7],\"title\":\"t\"}]}},\"arcs\":[]}"
unfolding segments_from ring_segments
point_of_feature = refl

-- foreign members of a geometry
inside_geometry : text_alone (single_pieces geo.LineString (at 7 (codes "[]")) [] (member_at word.Coordinates (codes "\"coordinates\"") (codes "[]") ∷ member_at word.Other (codes "\"crs\"") (codes "{}") ∷ member_at word.Id (codes "\"id\"") (codes "1") ∷ [])) ≡ codes "{\"type\":\"Topology\",\"objects\":{\"features\":{\"type\":\"GeometryCollection\",\"geometries\":[{\"type\":\"LineString\",\"geometry\":{\"crs\":{},\"id\":1}}]}},\"arcs\":[]}"
unfolding segments_from ring_segments
inside_geometry = refl

-- a Feature without geometry, in a collection with a name
in_named_collection : segments_text (text_segments (layered (Some (member_at word.Name (codes "\"name\"") (codes "\"\\u00e9\""))) (member_at word.Name (codes "\"name\"") (codes "\"\\u00e9\"") ∷ member_at word.Other (codes "\"crs\"") (codes "{}") ∷ []) (empty []))) ≡ codes "{\"type\":\"Topology\",\"objects\":{\"\\u00e9\":{\"type\":\"GeometryCollection\",\"geometries\":[{\"type\":null}],\"crs\":{}}},\"arcs\":[]}"
unfolding segments_from ring_segments
in_named_collection = refl

-- a name that is none of the layer stays a member
in_collection : segments_text (text_segments (layered None (member_at word.Name (codes "\"name\"") (codes "{}") ∷ []) [])) ≡ codes "{\"type\":\"Topology\",\"objects\":{\"features\":{\"type\":\"GeometryCollection\",\"geometries\":[],\"name\":{}}},\"arcs\":[]}"
unfolding segments_from ring_segments
in_collection = refl

-- ---- copied parts

abbrev parts_alone : List TextPiece → List CopiedPart
parts_alone ps = (made_by_segments (text_segments (layered None [] ps))).parts

-- of a polygon the ring, which is an arc
copied_ring : parts_alone (single_pieces geo.Polygon (at 7 (codes "[[[0,0],[4,0],[4,4],[0,0]]]")) [] []) ≡ record { made = 127; file = 8; len = 25 } ∷ []
unfolding segments_from ring_texts ring_segments copies_from part_len parts_from digits
copied_ring = refl

-- of a Feature the id, the properties, the position, and a foreign member's name and value
copied_members : parts_alone (single_pieces geo.Point (at 7 (codes "[1.5,2,7]")) (member_at word.Id (codes "\"id\"") (codes "3") ∷ member_at word.Bbox (codes "\"bbox\"") (codes "[]") ∷ member_at word.Other (codes "\"title\"") (codes "\"t\"") ∷ member_at word.Properties (codes "\"properties\"") (codes "null") ∷ []) []) ≡ record { made = 105; file = 7; len = 1 } ∷ record { made = 120; file = 7; len = 4 } ∷ record { made = 139; file = 7; len = 9 } ∷ record { made = 149; file = 3; len = 7 } ∷ record { made = 157; file = 7; len = 3 } ∷ []
unfolding segments_from ring_segments copies_from
copied_members = refl

-- ---- names of another object

arcs_in_feature : barred owner.Feature (member_at word.Id (codes "\"id\"") (codes "1") ∷ member_at word.Arcs (codes "\"arcs\"") (codes "1") ∷ []) ≡ Some (member_at word.Arcs (codes "\"arcs\"") (codes "1"))
arcs_in_feature = refl

arcs_in_geometry : barred owner.Geometry (member_at word.Arcs (codes "\"arcs\"") (codes "1") ∷ []) ≡ None
arcs_in_geometry = refl

geometries_of_polygon : value_member geo.Polygon (member_at word.Geometries (codes "\"geometries\"") (codes "[]") ∷ member_at word.Coordinates (codes "\"coordinates\"") (codes "[]") ∷ []) ≡ Err (bad_member (codes "geometries"))
geometries_of_polygon = refl

no_coordinates : value_member geo.Polygon (member_at word.Geometries (codes "\"geometries\"") (codes "[]") ∷ []) ≡ Err (bad_member (codes "coordinates"))
no_coordinates = refl

numbers_in_polygon : value_member geo.Polygon (member_at word.Coordinates (codes "\"coordin\\u0061tes\"") (codes "[0,0]") ∷ []) ≡ Err (bad_member (codes "coordin\\u0061tes"))
unfolding part_len parts_from
numbers_in_polygon = refl

-- ---- places

abbrev ten_from_four : CopiedPart
ten_from_four = record { made = 20; file = 4; len = 10 }

first_byte : in_file (ten_from_four ∷ []) 20 ≡ Some 4
first_byte = refl

last_byte : in_file (ten_from_four ∷ []) 29 ≡ Some 13
last_byte = refl

behind_it : in_file (ten_from_four ∷ []) 30 ≡ None
behind_it = refl

before_it : in_file (ten_from_four ∷ []) 19 ≡ None
before_it = refl
