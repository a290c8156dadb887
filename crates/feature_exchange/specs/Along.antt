-- What is read along rings: the ring under a number, and that its keys are those of vertices.
use Rattle.std.specs.Prelude.{ℕ, List, IsTrue, Contains}
use Rattle.std.specs.FinMap as table
use Rattle.grid_geometry.specs.Common.{Position}
use Rattle.ring_machine.specs.Common.{canonical}
use Rattle.vertex_index.specs.Common.{Placement}
use Rattle.arc_tables.specs.Common.{Rings, begins}
use Rattle.feature_exchange.specs.Stored.{edges_under, positions_along}

-- the ring with this number, from its least position on
abbrev pub ring_in : Placement → Rings → ℕ → List Position
ring_in places m r = canonical (positions_along places (edges_under m r))

-- each key along a ring is that of a vertex
abbrev pub AlongVertices : Placement → Rings → Type 0
AlongVertices places m =
    (r k : ℕ) → Contains (begins (edges_under m r)) k → IsTrue (table.contains_key places k)
