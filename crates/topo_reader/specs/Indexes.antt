-- The arcs that the rings use: the first fault in the order of the text, or all of them,
-- each in its direction.
use Rattle.std.specs.Prelude.{ℕ, ℤ, pos, negsuc, List, [], ◌∷◌, reverse, Option, Some, None, option_map, slice_get, Result, Ok, Err}
use Rattle.json_spans.specs.Common.{Node, items, whole_of}
use Rattle.json_spans.specs.declared.number.NotWhole.{NotWhole}
use Rattle.json_spans.specs.declared.number.NotWhole.TheVariants as is_not
use Rattle.ring_machine.specs.Common.{Form, Polygon, MultiPolygon, Null}
pub use Rattle.topo_reader.specs.Arcs.{Arc}
use Rattle.topo_outline.specs.Common.{Fault, not_whole, bad_arc_index, ◌>>=◌, each}

-- an index names an arc, or by its ones' complement the arc in reverse (TopoJSON 1.0, 2.1.4)
abbrev pub arc_named : List Arc → ℤ → Option Arc
arc_named arcs (pos i) = slice_get arcs i
arc_named arcs (negsuc i) = option_map reverse (slice_get arcs i)

abbrev pub there : ℕ → Option Arc → Result Arc Fault
there place (Some a) = Ok a
there place None = Err (bad_arc_index place)

-- an index that is no whole number is not whole, and one that names no arc is bad
abbrev pub index_from : List Arc → ℕ → Result ℤ NotWhole → Result Arc Fault
index_from arcs place (Ok z) = there place (arc_named arcs z)
index_from arcs place (Err is_not.Form) = Err (not_whole place)
index_from arcs place (Err is_not.Huge) = Err (bad_arc_index place)

abbrev pub index : List Arc → Node → Result Arc Fault
index arcs n = index_from arcs n.at_byte (whole_of n.bytes)

-- the arcs of one ring, of one polygon's rings
unfoldable pub ring : List Arc → Node → Result (List Arc) Fault
ring arcs n = each (index arcs) (items n)

unfoldable pub polygon : List Arc → Node → Result (List (List Arc)) Fault
polygon arcs n = each (ring arcs) (items n)

-- the polygons of a geometry's `arcs`
unfoldable pub polygons : List Arc → Form → Node → Result (List (List (List Arc))) Fault
polygons arcs Null n = Ok []
polygons arcs Polygon n = do
  p ← polygon arcs n
  Ok (p ∷ [])
polygons arcs MultiPolygon n = each (polygon arcs) (items n)

-- the polygons of a feature, by its form and the place of its `arcs`
unfoldable pub uses_of : List Arc → Form × Node → Result (List (List (List Arc))) Fault
uses_of found f = polygons found f.0 f.1
