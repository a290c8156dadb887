-- Boxes that are held, and wider ones.
use Rattle.std.specs.Prelude.{◌≡◌, true, List}
use Rattle.std.specs.FinSet as set
use Rattle.grid_geometry.specs.Common.{Position, Segment, Box, box_of}
use Rattle.segment_index.specs.Common.{is_within, SegmentSet, AreAmong, has}
use Rattle.point_queries.specs.Covering.{is_within_diagonal}

-- each box that was held still is
abbrev pub StaysHeld : SegmentSet → SegmentSet → Type 0
StaysHeld old new = (d : Segment) → set.contains old d ≡ true → set.contains new d ≡ true

-- the list has the held boxes that the position lies in
pub record AreBoxesOf (boxes : SegmentSet) (p : Position) (near : List Segment) : Type 0 where
  pub among : AreAmong boxes near
  pub have_it : (d : Segment) → has near d ≡ true → is_within_diagonal d p ≡ true
  pub each : (d : Segment) → set.contains boxes d ≡ true → is_within_diagonal d p ≡ true → has near d ≡ true

-- the second box has the position, and all that the first one has
pub record IsWider (d : Segment) (p : Position) (wider : Segment) : Type 0 where
  pub has_all : (q : Position) → is_within_diagonal d q ≡ true → is_within_diagonal wider q ≡ true
  pub has_it : is_within_diagonal wider p ≡ true

-- a held box has the position, and all that a given one has
abbrev pub IsWidened : SegmentSet → Segment → Position → Type 0
IsWidened boxes d p = (wider : Segment) × (set.contains boxes wider ≡ true) × IsWider d p wider

-- the least box that has a given one and those of the segments
pub record IsLeast (first : Box) (boxes : List Segment) (r : Box) : Type 0 where
  pub has_first : is_within first r ≡ true
  pub has_each : (d : Segment) → has boxes d ≡ true → is_within (box_of d) r ≡ true
  pub least : (q : Box) → is_within first q ≡ true
      → ((d : Segment) → has boxes d ≡ true → is_within (box_of d) q ≡ true) → is_within r q ≡ true
