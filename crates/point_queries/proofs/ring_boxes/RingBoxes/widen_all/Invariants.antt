use Rattle.kit_words.proofs.Common.{◌≡◌, true, take}
use Rattle.grid_geometry.specs.Common.{Segment}
use Rattle.segment_index.specs.Common.{has}
use Rattle.point_queries.specs.Common.{IsWidened, StaysHeld}
use Rattle.point_queries.proofs.ring_boxes.RingBoxes.widen_all.Given as goal

-- the boxes so far are widened, and those that were held still are
abbrev pub invariant-loop-d : goal.invariant-loop-d
invariant-loop-d g l = record {
  widened : (d : Segment) → has (take l.d-index l.boxes) d ≡ true → IsWidened l.self d l.p;
  stays : StaysHeld l.initial.self l.self;
}
