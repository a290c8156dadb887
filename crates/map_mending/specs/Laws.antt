-- What a mended document keeps of the one that was read, and how near to that it stays.
use Rattle.std.specs.Prelude.{◌≡◌, List, ◌++◌, map, Contains, IsTrue}
use Rattle.std.specs.List.{AllZip, list_all}
use Rattle.grid_geometry.specs.Common.{Position, Segment, Edge, edges}
use Rattle.ring_machine.specs.Common.{Feature, Document, features, rings_of, segment_of}
use Rattle.segment_paths.specs.Common.{is_near}
use Rattle.topo_reader.specs.Common.{is_simple}
use Rattle.segment_paths.specs.Common.{PathOfSegment, segments_with_path}
use Rattle.walk_mending.specs.Common.{laid, KeepsInOrder, is_position_of, is_odd_in}

-- ---- vertices

-- the ring has all the positions of the walk in their order, others between them, and begins at one
-- of these
pub record GoesAround (walk ring : List Position) : Type 0 where
  pub front : List Position
  pub back : List Position
  pub kept : KeepsInOrder walk (front ++ back)
  pub turned : ring ≡ back ++ front

-- the walks of a polygon that are led along the paths: where all are rings, it is one of the
-- polygons of g, and each of its rings goes around as the walk did; and both ends of each segment
-- that stands in them an odd number of times are positions of g
pub record KeepsVertices (paths : List PathOfSegment) (f g : Feature) : Type 0 where
  pub rings : (walks : List (List Position)) → Contains f.polygons walks
      → IsTrue (list_all is_simple (map (laid paths) walks))
      → (polygon : List (List Position)) × Contains g.polygons polygon
      × AllZip GoesAround walks polygon
  pub ends : (walks : List (List Position)) (s : Segment) → Contains f.polygons walks
      → IsTrue (is_odd_in (map (laid paths) walks) s)
      → IsTrue (is_position_of g.polygons s.lo) × IsTrue (is_position_of g.polygons s.hi)

-- each feature of d keeps its vertices in the one of e that stands in its place
abbrev pub VerticesStay : List PathOfSegment → Document → Document → Type 0
VerticesStay paths d e = AllZip (KeepsVertices paths) (features d) (features e)

-- ---- near

-- p is a position of one of the walks, or it is near the segment of an edge of theirs that has a
-- path
pub data ComesFrom (paths : List PathOfSegment) (walks : List (List Position)) (p : Position)
    : Type 0 where
  stood : {walk : List Position} → Contains walks walk → Contains walk p
      → ComesFrom paths walks p
  put : {walk : List Position} {e : Edge} → Contains walks walk → Contains (edges walk) e
      → Contains (segments_with_path paths) (segment_of e) → IsTrue (is_near p (segment_of e))
      → ComesFrom paths walks p

-- each position of g comes from the walks of f
abbrev pub StaysNear : List PathOfSegment → Feature → Feature → Type 0
StaysNear paths f g =
    (p : Position) → IsTrue (is_position_of g.polygons p) → ComesFrom paths (rings_of f) p

-- each feature of e stays near the one of d in the place of which it stands
abbrev pub AllStayNear : List PathOfSegment → Document → Document → Type 0
AllStayNear paths d e = AllZip (StaysNear paths) (features d) (features e)
