-- Paths of segments: what is put between their ends.
use Rattle.std.specs.Prelude.{ℕ, List, [], ◌∷◌, ◌++◌, map, length, Contains, IsTrue, if◌then◌else◌}
use Rattle.std.specs.List.{All, list_all, sum_by}
use Rattle.std.specs.List.Sorted.{IsStrictlySortedBy}
use Rattle.std.specs.Ordering.{int_cmp}
use Rattle.grid_geometry.specs.Common.{Position, Segment, segment_cmp, segment_eq, is_end, cross, links}
use Rattle.ring_machine.specs.Common.{segment_of}
use Rattle.segment_paths.specs.Near.{is_near, along}
use Rattle.segment_paths.specs.Crossing.{IsRoundedCrossing}

-- a segment, and the positions that are put between its ends, from the lesser end on
abbrev pub PathOfSegment : Type 0
PathOfSegment = Segment × List Position

-- these positions lead from the lesser end of the segment to the greater one: each is near the
-- segment, and further along it than the one before
pub record IsWay (s : Segment) (inner : List Position) : Type 0 where
  pub near : IsTrue (list_all (λ q. is_near q s) inner)
  pub onward : IsStrictlySortedBy int_cmp (map (along s) (s.lo ∷ inner ++ s.hi ∷ []))

-- q is an end of one of the segments, or the crossing of two of them, rounded to the grid
pub data IsKnown (ss : List Segment) (q : Position) : Type 0 where
  vertex : {s : Segment} → Contains ss s → IsTrue (is_end q s) → IsKnown ss q
  crossing : {s t : Segment} → Contains ss s → Contains ss t → IsTrue (cross s t)
      → IsRoundedCrossing s t q → IsKnown ss q

-- the segments that have a path
abbrev pub segments_with_path : List PathOfSegment → List Segment
segments_with_path paths = map (λ p. p.0) paths

-- the paths of some of the segments, ascending by them, one of each at most
pub record ArePaths (ss : List Segment) (paths : List PathOfSegment) : Type 0 where
  pub ascending : IsStrictlySortedBy segment_cmp (segments_with_path paths)
  pub among : All (λ p. Contains ss p.0) paths
  pub ways : All (λ p. IsWay p.0 p.1) paths
  pub known : All (λ p. All (IsKnown ss) p.1) paths

-- how many positions are put in
abbrev pub inner_positions : List PathOfSegment → ℕ
inner_positions paths = sum_by (λ p. length p.1) paths

-- the positions between the ends of a segment on its path; none where it has none
abbrev pub inner_of : List PathOfSegment → Segment → List Position
inner_of [] s = []
inner_of (p ∷ ps) s = if segment_eq s p.0 then p.1 else inner_of ps s

-- the links of a segment: from its lesser end over the positions of its path to the greater one,
-- from each to the next
abbrev pub links_of : List PathOfSegment → Segment → List Segment
links_of paths s = map segment_of (links (s.lo ∷ inner_of paths s ++ s.hi ∷ []))
