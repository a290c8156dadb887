-- Whether the root of a text is a GeoJSON object (RFC 7946, 3). Defined for any bytes.
use Rattle.std.specs.Prelude.{List, [], ◌∷◌, if◌then◌else◌, codes, Option, Some, None, option_and_then}
use Rattle.json_spans.specs.Common.{Node, decoded}
use Rattle.decimal_texts.specs.Common.{value_in}
use Rattle.topo_outline.specs.Common.{is_object}
use Rattle.geo_topology.specs.Words.{type_named}
use Rattle.geo_topology.specs.declared.words.GeoType.{GeoType}
use Rattle.geo_topology.specs.declared.words.GeoType.TheVariants as geo
use Rattle.geo_topology.specs.declared.object.GeoObject.{GeoObject}
use Rattle.geo_topology.specs.declared.object.GeoObject.TheVariants as object

abbrev pub object_of : GeoType → Option GeoObject
object_of geo.FeatureCollection = Some object.FeatureCollection
object_of geo.Feature = Some object.Feature
object_of geo.Other = None
object_of _ = Some object.Geometry

-- the object whose `type` is a string that stands for this text, or for none
abbrev pub object_named : List Node → Option GeoObject
object_named [] = None
object_named (v ∷ vs) = option_and_then (λ t. object_of (type_named t)) (decoded v.bytes)

-- the object that the root is, by its first member `type` (1.4)
abbrev pub geo_object : Node → Option GeoObject
geo_object root = if is_object root then object_named (value_in (codes "type") root) else None
