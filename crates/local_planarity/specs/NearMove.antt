-- The segments near a move.
use Rattle.std.specs.Prelude.{List, ◌∷◌}
use Rattle.grid_geometry.specs.Common.{Position, Segment, Box, segment}
use Rattle.segment_index.specs.Common.{SegmentSet, HasNear, LieIn}

-- held segments, among them every one whose box meets a box in which the way from p to q lies, and
-- all segments that come
pub record HasNearMove (held : SegmentSet) (p q : Position) (after : List Segment)
    (near : SegmentSet) : Type 0 where
  pub rect : Box
  pub has_near : HasNear held rect near
  pub lie : LieIn rect (segment p q ∷ after)
