-- The words of the format (RFC 7946, 1.4 and 3 to 7).
use Rattle.std.specs.Prelude.{ℕ, List, if◌then◌else◌, codes}
use Rattle.std.specs.Str.{bytes_eq}
use Rattle.geo_topology.specs.declared.words.Word.{Word}
use Rattle.geo_topology.specs.declared.words.Word.TheVariants as word
use Rattle.geo_topology.specs.declared.words.GeoType.{GeoType}
use Rattle.geo_topology.specs.declared.words.GeoType.TheVariants as geo

unfoldable pub word_named : List ℕ → Word
word_named t =
    if bytes_eq t (codes "type") then word.Type
    else (if bytes_eq t (codes "features") then word.Features
    else (if bytes_eq t (codes "geometry") then word.Geometry
    else (if bytes_eq t (codes "geometries") then word.Geometries
    else (if bytes_eq t (codes "coordinates") then word.Coordinates
    else (if bytes_eq t (codes "id") then word.Id
    else (if bytes_eq t (codes "properties") then word.Properties
    else (if bytes_eq t (codes "bbox") then word.Bbox
    else (if bytes_eq t (codes "name") then word.Name
    else (if bytes_eq t (codes "arcs") then word.Arcs
    else word.Other)))))))))

unfoldable pub type_named : List ℕ → GeoType
type_named t =
    if bytes_eq t (codes "FeatureCollection") then geo.FeatureCollection
    else (if bytes_eq t (codes "Feature") then geo.Feature
    else (if bytes_eq t (codes "Point") then geo.Point
    else (if bytes_eq t (codes "MultiPoint") then geo.MultiPoint
    else (if bytes_eq t (codes "LineString") then geo.LineString
    else (if bytes_eq t (codes "MultiLineString") then geo.MultiLineString
    else (if bytes_eq t (codes "Polygon") then geo.Polygon
    else (if bytes_eq t (codes "MultiPolygon") then geo.MultiPolygon
    else (if bytes_eq t (codes "GeometryCollection") then geo.GeometryCollection
    else geo.Other))))))))
