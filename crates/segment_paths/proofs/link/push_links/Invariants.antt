use Rattle.kit_words.proofs.Common.{List, ◌∷◌, ◌≡◌, Contains, get_or, All}
use Rattle.grid_geometry.specs.Common.{Segment}
use Rattle.segment_paths.specs.Common.{PathOfSegment, IsKnown, inner_of, IsPiece}
use Rattle.segment_paths.proofs.link.push_links.Given as goal

-- the links so far are between known positions, and the next one begins at one, the last that was reached
abbrev pub invariant-loop-to : goal.invariant-loop-to
invariant-loop-to g l = record {
  reached : l.from ≡ get_or (l.owner.lo ∷ l.inner) l.to-index l.from;
  pieces : (ss : List Segment) (paths : List PathOfSegment) → All (IsPiece ss paths) l.initial.links.items → Contains ss l.owner → All (IsKnown ss) l.inner
      → inner_of paths l.owner ≡ l.inner → All (IsPiece ss paths) l.links.items × IsKnown ss l.from;
}
