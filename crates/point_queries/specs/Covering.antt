-- Boxes, each by a diagonal, that the rings of a map lie in.
use Rattle.std.specs.Prelude.{◌≡◌, Bool, true, List, Contains}
use Rattle.std.specs.FinSet as set
use Rattle.grid_geometry.specs.Common.{Position, Segment, Box, box_of, boxes_meet}
use Rattle.segment_index.specs.Common.{is_within, SegmentSet}

-- the box of one position
abbrev pub box_at : Position → Box
box_at p = record { x0 = p.x; y0 = p.y; x1 = p.x; y1 = p.y }

-- the position lies in the box of which the segment is a diagonal
abbrev pub is_within_diagonal : Segment → Position → Bool
is_within_diagonal d p = boxes_meet (box_of d) (box_at p)

-- all positions of the ring lie in one of the boxes
pub record IsCovered (boxes : SegmentSet) (ring : List Position) : Type 0 where
  pub by : Segment
  pub held : set.contains boxes by ≡ true
  pub within : (p : Position) → Contains ring p → is_within_diagonal by p ≡ true

-- all positions of each ring lie in one of the boxes
abbrev pub CoversRings : SegmentSet → List (List Position) → Type 0
CoversRings boxes rings = (ring : List Position) → Contains rings ring → IsCovered boxes ring

-- each ring that lies in one of the old boxes lies in one of the new ones
abbrev pub KeepsCovered : SegmentSet → SegmentSet → Type 0
KeepsCovered old new = (ring : List Position) → IsCovered old ring → IsCovered new ring

-- the least box that has the position, and each of the boxes that it lies in
pub record IsBoxAround (boxes : SegmentSet) (p : Position) (r : Box) : Type 0 where
  pub has_it : is_within (box_at p) r ≡ true
  pub has_each : (d : Segment) → set.contains boxes d ≡ true → is_within_diagonal d p ≡ true
      → is_within (box_of d) r ≡ true
  pub least : (q : Box) → is_within (box_at p) q ≡ true
      → ((d : Segment) → set.contains boxes d ≡ true → is_within_diagonal d p ≡ true → is_within (box_of d) q ≡ true)
      → is_within r q ≡ true
