-- Rings that stand in the tables of a map, whatever its frame says of them.
use Rattle.std.specs.Prelude.{ℕ, ◌≡◌, ◌↔◌, List, Some, IsTrue, Contains}
use Rattle.std.specs.FinMap as table
use Rattle.std.specs.FinSet as set
use Rattle.grid_geometry.specs.Common.{Segment, segment}
use Rattle.vertex_index.specs.Common.{Placement, AreDistinct, place}
use Rattle.segment_index.specs.Common.{SegmentSet}
use Rattle.arc_tables.specs.Common.{Edge, Rings, begins}
use Rattle.ring_store.specs.Round.{GoesRound}

-- some ring has an edge that begins at the vertex with this key
pub record IsVisited (rings : Rings) (k : ℕ) : Type 0 where
  pub ring : ℕ
  pub edges : List Edge
  pub held : table.get rings ring ≡ Some edges
  pub visited : Contains (begins edges) k

-- some ring has an edge whose positions are the ends of this segment
pub record IsSide (places : Placement) (rings : Rings) (t : Segment) : Type 0 where
  pub ring : ℕ
  pub edges : List Edge
  pub held : table.get rings ring ≡ Some edges
  pub edge : Edge
  pub among : Contains edges edge
  pub is : t ≡ segment (place places edge.0) (place places edge.1)

-- the three tables belong together
pub record Stands (places : Placement) (rings : Rings) (held : SegmentSet) : Type 0 where
  pub round : (r : ℕ) (es : List Edge) → table.get rings r ≡ Some es → GoesRound es
  -- vertices are those that rings visit, each at a position of its own
  pub placed : (k : ℕ) → IsVisited rings k → IsTrue (table.contains_key places k)
  pub passed : (k : ℕ) → IsTrue (table.contains_key places k) → IsVisited rings k
  pub distinct : AreDistinct places
  -- a segment is held exactly where some ring has it
  pub indexed : (t : Segment) → IsTrue (set.contains held t) ↔ IsSide places rings t
