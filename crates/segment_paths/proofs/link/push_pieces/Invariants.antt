use Rattle.kit_words.proofs.Common.{List, ◌≡◌, [], All}
use Rattle.grid_geometry.specs.Common.{Segment}
use Rattle.segment_paths.specs.Common.{PathOfSegment, IsPiece, IsLinkOf}
use Rattle.segment_paths.proofs.link.push_pieces.Given as goal

abbrev pub invariant-loop-piece : goal.invariant-loop-piece
invariant-loop-piece g l = record {
  kept : (ss : List Segment) (paths : List PathOfSegment) → All (IsPiece ss paths) l.initial.found.items → All (IsPiece ss paths) l.run
      → All (IsPiece ss paths) l.found.items;
  same : All (IsLinkOf l.link) l.initial.found.items → All (IsLinkOf l.link) l.found.items;
  none : l.run ≡ [] → l.found.items ≡ l.initial.found.items;
}
