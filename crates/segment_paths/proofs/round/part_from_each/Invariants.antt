use Rattle.kit_words.proofs.Common.{List, All}
use Rattle.grid_geometry.specs.Common.{Segment}
use Rattle.segment_paths.specs.Common.{PathOfSegment, IsStop, IsPiece}
use Rattle.segment_paths.proofs.round.part_from_each.Given as goal

abbrev pub invariant-loop-other : goal.invariant-loop-other
invariant-loop-other g l =
    (ss : List Segment) (paths : List PathOfSegment) → All (IsStop ss) l.initial.stops.items → IsPiece ss paths l.one → All (IsPiece ss paths) l.others → All (IsStop ss) l.stops.items
