use Rattle.std.proofs.Common.{List}
use Rattle.grid_geometry.specs.Segment.{Segment}
use Rattle.local_planarity.specs.Edits.{IsFilled}
use Rattle.trials_index.proofs.conflicts.filled.Given as goal

-- the index holds some segments, and the first pair is theirs
abbrev pub invariant-loop-s : goal.invariant-loop-s
invariant-loop-s g l = (ss : List Segment) × IsFilled (g.I.SegIndex.held l.index) l.first ss
