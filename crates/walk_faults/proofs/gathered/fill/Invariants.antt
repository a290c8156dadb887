use Rattle.kit_words.proofs.Common.{◌≡◌, take}
use Rattle.std.specs.FinSet as set
use Rattle.grid_geometry.specs.Common.{Segment}
use Rattle.segment_index.specs.Common.{has}
use Rattle.walk_faults.proofs.gathered.fill.Given as goal

-- the segments so far are held
abbrev pub invariant-loop-segment : goal.invariant-loop-segment
invariant-loop-segment g l =
    (t : Segment) → set.contains (g.I.SegIndex.held l.index) t ≡ has (take l.segment-index l.segments) t
