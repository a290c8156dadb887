-- What the search holds of paths that it makes.
use Rattle.std.specs.Prelude.{◌≡◌, [], List, Contains, Option, Some, None, IfSome}
use Rattle.std.specs.List.{All}
use Rattle.grid_geometry.specs.Common.{Segment}
use Rattle.ring_machine.specs.Common.{least_conflict}
use Rattle.segment_paths.specs.declared.stop.Stop.{Stop}
use Rattle.segment_paths.specs.declared.link.Piece.{Piece}
use Rattle.segment_paths.specs.declared.ways.Ways.{Ways}
use Rattle.segment_paths.specs.declared.round.Round.{Round}
use Rattle.segment_paths.specs.Paths.{PathOfSegment, IsKnown, ArePaths, links_of}
use Rattle.segment_paths.specs.Faults.{StillConflict}
use Rattle.segment_paths.specs.Seen.{paths_seen}

-- a known position, for one of the segments
pub record IsStop (ss : List Segment) (stop : Stop) : Type 0 where
  pub among : Contains ss stop.segment
  pub known : IsKnown ss stop.pos

-- a link between known positions, with a segment whose link it is
pub record IsPiece (ss : List Segment) (paths : List PathOfSegment) (piece : Piece) : Type 0 where
  pub among : Contains ss piece.owner
  pub lesser : IsKnown ss piece.link.lo
  pub greater : IsKnown ss piece.link.hi
  pub has_it : Contains (links_of paths piece.owner) piece.link

-- the piece has this link
abbrev pub IsLinkOf : Segment → Piece → Type 0
IsLinkOf link piece = piece.link ≡ link

-- the segments of two pieces, one of each list
abbrev pub AreOwners : List Piece → List Piece → Option (Segment × Segment) → Type 0
AreOwners ones others pair =
    (one : Piece) × (other : Piece) × Contains ones one × Contains others other
    × (pair ≡ Some (one.owner, other.owner))

-- paths of these segments so far: stops, the paths over them, and the links of the paths
pub record AreWays {A : Type 0} (ss : List Segment) (ways : Ways A) : Type 0 where
  pub segments : ways.segments.now ≡ ss
  pub stops : All (IsStop ss) ways.stops.items
  pub paths : ArePaths ss (paths_seen ways.paths.items)
  pub links : All (IsPiece ss (paths_seen ways.paths.items)) ways.links.items

-- two segments of which links conflict, if a pair is given
abbrev pub IsPair : {A : Type 0} → List Segment → Ways A → Option (Segment × Segment) → Type 0
IsPair ss ways pair = IfSome pair (λ p. StillConflict ss (paths_seen ways.paths.items) p.0 p.1)

-- what a round over these paths found so far: stops for their segments, and two segments of which
-- links conflict, if it found any; none before the first paths where no two segments conflict
pub record IsRound {A : Type 0} (ways : Ways A) (round : Round A) : Type 0 where
  pub stops : (ss : List Segment) → AreWays ss ways → All (IsStop ss) round.stops.items
  pub needed : ways.links.items ≡ [] → least_conflict ways.segments.now ≡ None → round.conflict ≡ None
  pub conflict : (ss : List Segment) → AreWays ss ways → IsPair ss ways round.conflict
