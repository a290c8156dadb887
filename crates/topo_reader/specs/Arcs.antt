-- Arcs as lists of positions.
use Rattle.std.specs.Prelude.{List, pos}
use Rattle.grid_geometry.specs.Common.{Position}

-- an arc is the list of its positions (TopoJSON 1.0, 2.1.3)
abbrev pub Arc : Type 0
Arc = List Position

-- what stands before the first difference (TopoJSON 1.0, 2.1.2)
abbrev pub origin : Position
origin = record { x = pos 0; y = pos 0 }
