use Rattle.kit_words.proofs.Common.{List, All}
use Rattle.grid_geometry.specs.Common.{Segment}
use Rattle.segment_paths.specs.Common.{PathOfSegment, IsStop, IsPiece}
use Rattle.segment_paths.proofs.round.part_all.Given as goal

abbrev pub invariant-loop-one : goal.invariant-loop-one
invariant-loop-one g l =
    (ss : List Segment) (paths : List PathOfSegment) → All (IsStop ss) l.initial.stops.items → All (IsPiece ss paths) l.ones → All (IsPiece ss paths) l.others → All (IsStop ss) l.stops.items
