-- What the code holds, seen as borders and vertices.
use Rattle.std.specs.Prelude.{List, map}
use Rattle.layer_sides.specs.declared.border.Border.{Border}
use Rattle.layer_sides.specs.declared.vertices.Vertex.{Vertex}
use Rattle.grid_geometry.specs.Common.{Segment}
use Rattle.layer_sides.specs.Borders.{Bordering}
use Rattle.layer_sides.specs.Under.{VertexOf, segments_of}

-- a border with its lists of numbers
abbrev pub border_seen : {A : Type 0} → Border A → Bordering
border_seen b = record { segment = b.segment; bounds = b.bounds.items; right = b.right.items }

-- the borders in their order
abbrev pub borders_seen : {A : Type 0} → List (Border A) → List Bordering
borders_seen borders = map border_seen borders

-- the segments of the borders in their order
abbrev pub segments_seen : {A : Type 0} → List (Border A) → List Segment
segments_seen borders = segments_of (borders_seen borders)

-- a vertex with the places of the borders that begin there
abbrev pub vertex_seen : {A : Type 0} → Vertex A → VertexOf
vertex_seen v = (v.at, v.begun.items)

-- the vertices in their order
abbrev pub vertices_seen : {A : Type 0} → List (Vertex A) → List VertexOf
vertices_seen vertices = map vertex_seen vertices
