-- Pairs of segments of which links conflict.
use Rattle.kit_words.proofs.Common.{◌≡◌, true, sym, subst, List, Contains, ◌⊎◌, inl, inr, Option, Result, Ok, Err, ℕ}
use Rattle.kit_words.proofs.Common.{◌<◌, All, IfSome, IfErr, IsErrAnd}
use Rattle.grid_geometry.specs.Common.{Segment, conflict}
use Rattle.segment_paths.specs.Common.{PathOfSegment, ArePaths, links_of, inner_positions, StillConflict, HasMore, paths_seen}
use Rattle.segment_paths.specs.Common.{IsPiece, IsLinkOf, AreOwners, SegmentPath}
use Rattle.segment_paths.specs.declared.link.Piece.{Piece}
use Rattle.segment_paths.specs.declared.fault.PathFault.{PathFault}

piece_in : (P : Piece → Type 0) (ones : List Piece) (one : Piece) → All P ones → Contains ones one → P one
piece_in P ones one h k = subst P k.2 (h k.0 one k.1)

pub owners_conflict : (ss : List Segment) (paths : List PathOfSegment) (s t : Segment) (ones others : List Piece) (old new : Option (Segment × Segment)) → conflict s t ≡ true
    → All (IsPiece ss paths) ones → All (IsPiece ss paths) others → All (IsLinkOf s) ones → All (IsLinkOf t) others → (new ≡ old) ⊎ AreOwners ones others new
    → IfSome old (λ p. StillConflict ss paths p.0 p.1) → IfSome new (λ p. StillConflict ss paths p.0 p.1)
owners_conflict ss paths s t ones others old new m h k i j (inl e) was = subst (λ o. IfSome o (λ p. StillConflict ss paths p.0 p.1)) (sym e) was
owners_conflict ss paths s t ones others old new m h k i j (inr w) was =
    let one = w.0 in
    let other = w.1 in
    let first = piece_in (IsPiece ss paths) ones one h w.2 in
    let second = piece_in (IsPiece ss paths) others other k w.3 in
    subst (λ o. IfSome o (λ p. StillConflict ss paths p.0 p.1)) (sym w.4)
    (record {
      one = first.among;
      other = second.among;
      link = s;
      of_one = subst (Contains (links_of paths one.owner)) (piece_in (IsLinkOf s) ones one i w.2) first.has_it;
      opposite = t;
      of_other = subst (Contains (links_of paths other.owner)) (piece_in (IsLinkOf t) others other j w.3) second.has_it;
      conflict = m;
    })

-- ---- faults

-- a fault that is handed on
pub handed : {R : Type 0} (P : PathFault → Type 0) (fault : PathFault) (r : Result R PathFault) → IsErrAnd r (λ y. y ≡ fault) → P fault → IfErr r P
handed P fault (Ok x) is h = absurd is
handed P fault (Err y) is h = subst P (sym is) h

-- paths that put in too much
pub has_more : {A : Type 0} (ss : List Segment) (most : ℕ) (given paths : List (SegmentPath A)) → given ≡ paths → ArePaths ss (paths_seen paths)
    → most < inner_positions (paths_seen given) → HasMore ss most
has_more ss most given paths e are more = record {
  paths = paths_seen paths;
  are_paths = are;
  more = subst (λ ps. most < inner_positions (paths_seen ps)) e more;
}
