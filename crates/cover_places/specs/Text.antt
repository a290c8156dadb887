-- The text of the places of faces: a topology of points and lines, without white space.
use Rattle.std.specs.Prelude.{ℕ, ◌+◌, List, [], ◌∷◌, ◌++◌, map, length, flat_map, Option, is_some, codes, decimal}
use Rattle.std.specs.Fmt.{signed_decimal}
use Rattle.std.specs.List.{range_with_len}
use Rattle.grid_geometry.specs.Common.{Edge, Position}
use Rattle.ring_machine.specs.Common.{Text}
use Rattle.map_text.specs.Common.{list_text, pair_text, arcs_text}
use Rattle.place_text.specs.Common.{collection_text, features_text, transform_member}
use Rattle.layer_faces.specs.declared.kind.Kind.{Kind}
use Rattle.layer_faces.specs.declared.kind.Kind.TheVariants.{Overlap, Twice, Gap, Lake, Land, Outside}
use Rattle.cover_places.specs.Places.{PlaceOf}

-- ---- properties

-- the name of a kind, as the report has it
abbrev pub kind_text : Kind → Text
kind_text Overlap = codes "\"overlap\""
kind_text Twice = codes "\"twice\""
kind_text Gap = codes "\"gap\""
kind_text Lake = codes "\"lake\""
kind_text Land = codes "\"land\""
kind_text Outside = codes "\"outside\""

-- what the report tells of a face: {"kind":"gap","number":N,"features":[F,G],"area":A,"width":W}
abbrev pub properties_text : PlaceOf → Text
properties_text p =
    codes "{\"kind\":" ++ (kind_text p.face.kind ++ (codes ",\"number\":" ++ (decimal p.number
    ++ (features_text p.face.features ++ (codes ",\"area\":" ++ (signed_decimal p.face.area
    ++ (codes ",\"width\":" ++ (decimal p.face.width ++ codes "}"))))))))

-- ---- geometries

-- a point: the first position of the face's name (TopoJSON 1.0, 2.2.1)
abbrev pub point_text : PlaceOf → Text
point_text p =
    codes "{\"type\":\"Point\",\"properties\":" ++ (properties_text p
    ++ (codes ",\"coordinates\":" ++ (pair_text p.face.from ++ codes "}")))

-- a line of the arc with this index (TopoJSON 1.0, 2.2.3)
abbrev pub line_text : ℕ → Text
line_text index = codes "[" ++ (decimal index ++ codes "]")

-- lines of so many arcs, of which the first has this index (TopoJSON 1.0, 2.2.4)
abbrev pub lines_text : ℕ → ℕ → Text
lines_text first count = list_text (map line_text (range_with_len first count))

-- the border of a face: a line for each of its sides, whose first arc has this index
abbrev pub border_text : ℕ → PlaceOf → Text
border_text first p =
    codes "{\"type\":\"MultiLineString\",\"properties\":" ++ (properties_text p
    ++ (codes ",\"arcs\":" ++ (lines_text first (length p.face.sides) ++ codes "}")))

-- the borders, each with arcs of its own, in the same order, of which the first has this index
abbrev pub borders_text : ℕ → List PlaceOf → List Text
borders_text first [] = []
borders_text first (p ∷ ps) = border_text first p ∷ borders_text (first + length p.face.sides) ps

-- ---- the topology (TopoJSON 1.0, 2.1)

-- the sides of the faces, one after another
abbrev pub sides_of : List PlaceOf → List Edge
sides_of places = flat_map (λ p. p.face.sides) places

-- the positions of a side, as an arc has them
abbrev pub side_positions : Edge → List Position
side_positions e = e.0 ∷ e.1 ∷ []

-- the layers of the places and of the borders, and the arcs
abbrev pub topology_text : Option Text → List PlaceOf → Text
topology_text transform places =
    codes "{\"type\":\"Topology\"" ++ (transform_member transform
    ++ (codes ",\"objects\":{\"places\":" ++ (collection_text (map point_text places)
    ++ (codes ",\"borders\":" ++ (collection_text (borders_text 0 places)
    ++ (codes "},\"arcs\":" ++ (arcs_text (is_some transform) (map side_positions (sides_of places))
    ++ codes "}")))))))
