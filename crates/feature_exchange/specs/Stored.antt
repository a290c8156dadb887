-- A map as the store keeps it, and the document that it means: a frame with numbers in place of
-- rings, the edges of each ring by its number, and the position of each vertex by its key.
use Rattle.std.specs.Prelude.{ℕ, List, [], map, unwrap_or}
use Rattle.std.specs.FinMap as table
use Rattle.grid_geometry.specs.Common.{Position}
use Rattle.ring_machine.specs.Common.{canonical, DocumentOf, Document, in_rings}
use Rattle.vertex_index.specs.Common.{Placement, place}
use Rattle.arc_tables.specs.Common.{Edge, Rings, begins}
use Rattle.map_frame.specs.Common.{Framed}
use Rattle.ring_store.specs.declared.tables.RingTables.{RingTables}

-- what is kept
pub record Stored : Type 0 where
  pub frame : DocumentOf ℕ
  pub rings : Rings
  pub places : Placement

-- what is kept with this frame
abbrev pub stored : Framed → Rings → Placement → Stored
stored frame rings places = record { frame = frame.doc; rings = rings; places = places }

-- what is kept with this frame in these tables
abbrev pub stored_in : {I A : Type 0} → Framed → RingTables I A → Stored
stored_in frame tables = stored frame tables.borders tables.vertices

-- the positions of a ring with these edges, in order
abbrev pub positions_along : Placement → List Edge → List Position
positions_along places es = map (place places) (begins es)

-- the edges of the ring with this number
abbrev pub edges_under : Rings → ℕ → List Edge
edges_under rings r = unwrap_or (table.get rings r) []

-- the ring with this number, from its least position on
abbrev pub ring_under : Stored → ℕ → List Position
ring_under s r = canonical (positions_along s.places (edges_under s.rings r))

-- the document: the frame with each ring in its place
abbrev pub stored_document : Stored → Document
stored_document s = in_rings (ring_under s) s.frame
