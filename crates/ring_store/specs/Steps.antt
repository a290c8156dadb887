-- Tables on the way from one map to another: what holds of them between two steps.
use Rattle.std.specs.Prelude.{ℕ, ◌≡◌, ◌↔◌, ◌⊎◌, List, map, Some, IsTrue, Contains}
use Rattle.std.specs.FinMap as table
use Rattle.std.specs.FinSet as set
use Rattle.grid_geometry.specs.Common.{Segment, segment}
use Rattle.vertex_index.specs.Common.{Placement, AreDistinct, place}
use Rattle.segment_index.specs.Common.{SegmentSet}
use Rattle.arc_tables.specs.Common.{Edge, Rings}
use Rattle.ring_store.specs.Round.{GoesRound}
use Rattle.ring_store.specs.Standing.{IsVisited, IsSide}

-- each ring goes round
abbrev pub AllRound : Rings → Type 0
AllRound rings = (r : ℕ) (es : List Edge) → table.get rings r ≡ Some es → GoesRound es

-- each ring goes round, along vertices at different positions
pub record AreKeyed (places : Placement) (rings : Rings) : Type 0 where
  pub round : AllRound rings
  pub placed : (k : ℕ) → IsVisited rings k → IsTrue (table.contains_key places k)
  pub distinct : AreDistinct places

-- the segments of these edges
abbrev pub sides : Placement → List Edge → List Segment
sides places es = map (λ (e : Edge). segment (place places e.0) (place places e.1)) es

-- the index holds the segments of the rings and of these edges
abbrev pub HoldsWith : Placement → Rings → SegmentSet → List Edge → Type 0
HoldsWith places rings held es =
    (t : Segment) → IsTrue (set.contains held t) ↔ (IsSide places rings t ⊎ Contains (sides places es) t)
