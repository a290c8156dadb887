-- The words of the format.
use Rattle.std.specs.Prelude.{ℕ, List, ◌||◌, if◌then◌else◌, codes}
use Rattle.std.specs.Str.{bytes_eq}
use Rattle.topo_outline.specs.declared.words.Word.{Word}
use Rattle.topo_outline.specs.declared.words.Word.TheVariants as word
use Rattle.topo_outline.specs.declared.words.Geometry.{Geometry}
use Rattle.topo_outline.specs.declared.words.Geometry.TheVariants as geometry

unfoldable pub word_of : List ℕ → Word
word_of t =
    if bytes_eq t (codes "type") then word.Type
    else (if bytes_eq t (codes "transform") then word.Transform
    else (if bytes_eq t (codes "objects") then word.Objects
    else (if bytes_eq t (codes "arcs") then word.Arcs
    else (if bytes_eq t (codes "geometries") then word.Geometries
    else (if bytes_eq t (codes "id") then word.Id
    else (if bytes_eq t (codes "properties") then word.Properties
    else (if bytes_eq t (codes "bbox") then word.Bbox
    else (if bytes_eq t (codes "scale") then word.Scale
    else (if bytes_eq t (codes "translate") then word.Translate
    else word.Other)))))))))

unfoldable pub geometry_of : List ℕ → Geometry
geometry_of t =
    if bytes_eq t (codes "Polygon") then geometry.Polygon
    else (if bytes_eq t (codes "MultiPolygon") then geometry.MultiPolygon
    else (if bytes_eq t (codes "GeometryCollection") then geometry.Collection
    else (if bytes_eq t (codes "Point") || bytes_eq t (codes "MultiPoint") then geometry.Point
    else (if bytes_eq t (codes "Topology") then geometry.Topology
    else geometry.Other))))
