use Rattle.kit_words.proofs.Common.{◌≡◌, ◌≤◌, List, take, length}
use Rattle.grid_geometry.specs.Common.{Segment}
use Rattle.walk_faults.specs.Common.{AreHeld, touches_among}
use Rattle.walk_faults.proofs.meeting.touches.Given as goal

-- the touches of the vertices so far
abbrev pub invariant-loop-p : goal.invariant-loop-p
invariant-loop-p g l = record {
  found : (ss : List Segment) → AreHeld (g.I.SegIndex.held l.index) ss → l.found.items ≡ touches_among (take l.p-index l.vertices) ss;
  few : length l.found.items ≤ l.most;
}
