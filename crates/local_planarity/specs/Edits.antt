-- Which segments are there before and after an edit.
use Rattle.std.specs.Prelude.{◌≡◌, Bool, true, false, not, ◌&&◌, ◌||◌, List, Option}
use Rattle.std.specs.FinSet as set
use Rattle.grid_geometry.specs.Common.{Position, Segment, segment_eq, is_end, conflict}
use Rattle.ring_machine.specs.Common.{least_conflict}
use Rattle.ring_machine.specs.Ring as machine
use Rattle.segment_index.specs.Common.{SegmentSet, AreSingle, has}
use Rattle.local_planarity.specs.declared.leaving.Leaving.{Leaving}
use Rattle.local_planarity.specs.declared.leaving.Leaving.TheVariants.{Nothing, EndingAt, One}

-- a segment goes away in the edit
abbrev pub goes_away : Leaving → Segment → Bool
goes_away Nothing t = false
goes_away (EndingAt p) t = is_end p t
goes_away (One s) t = segment_eq s t

-- a segment is held and does not go away
abbrev pub stays_held : SegmentSet → Leaving → Segment → Bool
stays_held held leaving t = set.contains held t && not (goes_away leaving t)

-- no two held segments conflict
abbrev pub NoneConflict : SegmentSet → Type 0
NoneConflict held =
    (s t : Segment) → set.contains held s ≡ true → set.contains held t ≡ true → conflict s t ≡ false

-- the list has exactly the held segments
abbrev pub IsHeld : SegmentSet → List Segment → Type 0
IsHeld held ss = (s : Segment) → has ss s ≡ set.contains held s

-- an index holds these segments, and this is the least pair of them in conflict
pub record IsFilled (held : SegmentSet) (pair : Option (Segment × Segment)) (ss : List Segment) : Type 0 where
  pub are_held : IsHeld held ss
  pub first : least_conflict ss ≡ pair

-- the list has exactly the held segments that do not leave, and the added ones
abbrev pub IsAfter : SegmentSet → Leaving → List Segment → List Segment → Type 0
IsAfter held leaving added ss = (s : Segment) → has ss s ≡ (stays_held held leaving s || has added s)

-- each segment of the list is held and does not go away, and none stands twice
pub record AreStaying (held : SegmentSet) (leaving : Leaving) (ts : List Segment) : Type 0 where
  pub each : (t : Segment) → has ts t ≡ true → stays_held held leaving t ≡ true
  pub once : AreSingle ts

-- the list has exactly the ends of the held segments
pub record IsEnds (held : SegmentSet) (ps : List Position) : Type 0 where
  pub each : (p : Position) (t : Segment) → set.contains held t ≡ true → is_end p t ≡ true
      → machine.has ps p ≡ true
  pub only : (p : Position) → machine.has ps p ≡ true
      → (t : Segment) × (set.contains held t ≡ true) × (is_end p t ≡ true)
