-- The texts of geometries and Features (RFC 7946, 3.1 and 3.2).
use Rattle.std.specs.Prelude.{ℕ, Bool, List, [], ◌∷◌, ◌++◌, map, codes, Result, Ok, unwrap_or, true, false}
use Rattle.ring_machine.specs.Common.{Text, Form, Null, Member, Head, Feature}
use Rattle.map_text.specs.Common.{commas, further, member, member_if, member_text, type_text}
use Rattle.geo_features.specs.Style.{Style}
use Rattle.geo_features.specs.Faults.{GeoFault, ◌>>=◌}
use Rattle.geo_features.specs.Names.{feature_members, geometry_members, not_of_feature, not_of_null}
use Rattle.geo_features.specs.Rings.{shape_text}
use Rattle.geo_features.specs.Points.{point_coordinates, point_head, point_type}

-- ---- geometries

-- a geometry of this type up to its coordinates
abbrev pub geometry_begin : Text → Text
geometry_begin type = codes "{\"type\":" ++ (type ++ codes ",\"coordinates\":")

-- a GeometryCollection up to its first geometry (3.1.8)
abbrev pub collection_begin : Text
collection_begin = codes "{\"type\":\"GeometryCollection\",\"geometries\":["

-- the end of a geometry, with members of its own: of a feature with these
abbrev pub others_text : List Member → Result Text GeoFault
others_text ms = do
  others ← geometry_members ms
  Ok (further (map member_text others) ++ codes "}")

-- the end of a GeometryCollection
abbrev pub collection_end : List Member → Result Text GeoFault
collection_end ms = do
  others ← others_text ms
  Ok (codes "]" ++ others)

-- the geometry of a feature of this form: null where it has none
abbrev pub geometry_of_form : Style → Form → Feature → Result Text GeoFault
geometry_of_form s Null f = Ok (codes "null")
geometry_of_form s form f = do
  others ← others_text f.members
  Ok (geometry_begin (type_text form) ++ (shape_text s form f.polygons ++ others))

unfoldable pub leaf_geometry : Style → Feature → Result Text GeoFault
leaf_geometry s f = geometry_of_form s f.form f

-- the geometry of point n
unfoldable pub point_geometry : Style → ℕ → Text → Result Text GeoFault
point_geometry s n t = do
  coordinates ← point_coordinates s n t
  others ← others_text (point_head t).members
  Ok (geometry_begin (point_type t) ++ (coordinates ++ others))

-- ---- Features

-- a Feature up to its geometry; without properties these are null
abbrev pub feature_begin : Head → Text
feature_begin h = codes "{" ++ (commas (map member_text (
    member (codes "\"type\"") (codes "\"Feature\"")
    ∷ (member_if (codes "\"id\"") h.id
    ++ member (codes "\"properties\"") (unwrap_or h.properties (codes "null")) ∷ [])))
    ++ codes ",\"geometry\":")

-- the end of a Feature, with members of its own: of a feature with these, which may not have these names
abbrev pub own_text : List Text → List Member → Result Text GeoFault
own_text words ms = do
  own ← feature_members words ms
  Ok (further (map member_text own) ++ codes "}")

-- the names that the members of a feature may not have
abbrev pub not_of_form : Form → List Text
not_of_form Null = not_of_null
not_of_form form = not_of_feature

-- a feature without a geometry
abbrev pub is_null : Form → Bool
is_null Null = true
is_null form = false
