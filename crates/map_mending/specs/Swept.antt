-- How much land borders sweep over as they are led along paths, twice as large so that it is whole.
use Rattle.std.specs.Prelude.{ℕ, pos, ◌≤◌, ◌*◌, ◌+◌, ◌≤ℤ◌, ◌-ℤ◌, unsigned_abs, List, [], ◌∷◌, ◌++◌}
use Rattle.std.specs.List.{sum_by}
use Rattle.grid_geometry.specs.Common.{Position, Segment, orientation, Edge, links, edges}
use Rattle.ring_machine.specs.Common.{segment_of}
use Rattle.segment_paths.specs.Common.{along}
use Rattle.segment_paths.specs.Common.{PathOfSegment, inner_of}
use Rattle.topo_reader.specs.Common.{Polygons}

-- the triangle of a step along a path and the path's end
abbrev pub triangle : Position → Edge → ℕ
triangle end step = unsigned_abs (orientation step.0 step.1 end)

-- what a segment sweeps over as it comes to lie on the path along these positions: it lies in the
-- triangles of the path's steps and its end
abbrev pub swept_along : Segment → List Position → ℕ
swept_along s inner = sum_by (triangle s.hi) (links (s.lo ∷ inner ++ s.hi ∷ []))

-- the same of an edge: its segment may have a path
abbrev pub swept_by : List PathOfSegment → Edge → ℕ
swept_by paths e = swept_along (segment_of e) (inner_of paths (segment_of e))

-- the same of walks: each edge as often as it stands in them
abbrev pub swept_walks : List PathOfSegment → List (List Position) → ℕ
swept_walks paths walks = sum_by (λ walk. sum_by (swept_by paths) (edges walk)) walks

-- the same of the walks of polygons
abbrev pub swept_of : List PathOfSegment → Polygons → ℕ
swept_of paths polygons = sum_by (swept_walks paths) polygons

-- q is beside the segment: within half a unit of its line in x or in y, and between its ends
pub record IsBeside (s : Segment) (q : Position) : Type 0 where
  pub near : 2 * unsigned_abs (orientation s.lo s.hi q)
      ≤ unsigned_abs (s.hi.x -ℤ s.lo.x) + unsigned_abs (s.hi.y -ℤ s.lo.y)
  pub begins : pos 0 ≤ℤ along s q
  pub ends : along s q ≤ℤ along s s.hi
