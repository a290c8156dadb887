-- The coordinates of the points of a topology (TopoJSON 1.0, 2.2.1 and 2.2.2): where they stand in
-- its text, in its order. Defined for any bytes.
use Rattle.std.specs.Prelude.{if◌then◌else◌, List, take, codes}
use Rattle.std.specs.List.{flat_map}
use Rattle.json_spans.specs.Common.{Node, items}
use Rattle.decimal_texts.specs.Geometries.{all_geometries, has_type, value_in}
use Rattle.decimal_texts.specs.declared.geometries.Shape.TheVariants as shape

-- the first two numbers of a position (TopoJSON 1.0, 2.1.1)
abbrev pub first_two : Node → List Node
first_two n = take 2 (items n)

-- the positions of a Point, whose `coordinates` are one, or of a MultiPoint, whose `coordinates`
-- are a list of them
abbrev pub point_positions : Node → List Node
point_positions n =
    let value = value_in (codes "coordinates") n in
    if has_type (codes "Point") n then value else flat_map items value

-- the coordinates of a Point or a MultiPoint
abbrev pub coordinates_of : Node → List Node
coordinates_of n = flat_map first_two (point_positions n)

-- the coordinates of the points of all layers of a topology
abbrev pub all_coordinates : Node → List Node
all_coordinates root = flat_map coordinates_of (all_geometries shape.Points root)
