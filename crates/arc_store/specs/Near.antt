-- The segments of a document near a box.
use Rattle.std.specs.Prelude.{◌≡◌, true, ◌++◌, List, Contains, IsTrue}
use Rattle.grid_geometry.specs.Common.{Segment, Box, box_of, boxes_meet}
use Rattle.ring_machine.specs.Common.{Document, is_segment}

-- what was appended are segments of the document, and among them each whose box meets the asked one
pub record ListsNear (d : Document) (rect : Box) (old new : List Segment) : Type 0 where
  pub found : List Segment
  pub appended : new ≡ old ++ found
  pub among : (t : Segment) → Contains found t → IsTrue (is_segment d t)
  pub covers : (t : Segment) → IsTrue (is_segment d t) → boxes_meet (box_of t) rect ≡ true
      → Contains found t
