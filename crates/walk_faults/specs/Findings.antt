-- What keeps a map of walks from being one of rings whose segments meet in common ends alone.
use Rattle.std.specs.Prelude.{◌≡◌, ◌↔◌, ◌<◌, ◌≤◌, ◌⊎◌, ℕ, Bool, nat_lt, nat_le, List, [], ◌∷◌, map, length}
use Rattle.std.specs.Prelude.{Contains, IsTrue, if◌then◌else◌}
use Rattle.std.specs.List.{filter, flat_map, fold, count_by}
use Rattle.std.specs.List.Sorted.{IsStrictlySortedBy}
use Rattle.std.specs.Ordering.{ordering_then}
use Rattle.std.specs.declared.cmp.Ordering.{Ordering}
use Rattle.grid_geometry.specs.Common.{Position, position_eq, position_cmp, Segment, segment_cmp, segment_lt, cross}
use Rattle.grid_geometry.specs.Common.{is_within, Edge, edges}
use Rattle.ring_machine.specs.Common.{segment_of, add_position}
use Rattle.topo_outline.specs.declared.fault.RingAt.{RingAt}
use Rattle.walk_faults.specs.declared.findings.Findings.{Findings}
use Rattle.walk_faults.specs.declared.findings.Repeat.{Repeat}
use Rattle.walk_faults.specs.declared.findings.Touch.{Touch}
use Rattle.walk_faults.specs.declared.findings.Crossing.{Crossing}
use Rattle.walk_faults.specs.declared.findings.FindFault.{FindFault}
use Rattle.walk_faults.specs.declared.findings.FindFault.TheVariants.{TooMany, OutOfMemory}
use Rattle.walk_faults.specs.Walks.{Placed, walks_of}

-- ---- each walk for itself

-- the walk has fewer than three positions
abbrev pub is_short_walk : List Position → Bool
is_short_walk walk = nat_lt (length walk) 3

-- p stands in the walk more than once
abbrev pub is_repeated : List Position → Position → Bool
is_repeated walk p = nat_le 2 (count_by (position_eq p) walk)

-- the positions that stand in the walk more than once, ascending, each once
abbrev pub repeated : List Position → List Position
repeated walk = filter (is_repeated walk) (fold add_position [] walk)

-- where the short walks stand
abbrev pub short_walks : List Placed → List RingAt
short_walks walks = map (λ w. w.0) (filter (λ w. is_short_walk w.1) walks)

-- the walk that stands there passes p more than once
abbrev pub repeat_at : RingAt → Position → Repeat
repeat_at ring p = record { ring = ring; pos = p }

-- the positions that a walk passes more than once, walk after walk
abbrev pub all_repeats : List Placed → List Repeat
all_repeats walks = flat_map (λ w. map (repeat_at w.0) (repeated w.1)) walks

-- ---- vertices and segments

-- the positions of the walks, as often as they stand there
abbrev pub all_positions : List Placed → List Position
all_positions walks = flat_map (λ w. w.1) walks

-- the segment of an edge, where its ends differ
abbrev pub segment_at : Edge → List Segment
segment_at e = if position_eq e.0 e.1 then [] else (segment_of e ∷ [])

-- the segments of a walk: its edges with different ends, without direction
abbrev pub walk_segments : List Position → List Segment
walk_segments walk = flat_map segment_at (edges walk)

-- the segments of the walks, as often as they stand there
abbrev pub segments_of_walks : List Placed → List Segment
segments_of_walks walks = flat_map (λ w. walk_segments w.1) walks

-- p lies on the segment and is none of its ends
abbrev pub touch_at : Position → Segment → Touch
touch_at p s = record { pos = p; segment = s }

-- a vertex of the walks lies on a segment of theirs and is none of its ends
pub record IsTouch (walks : List Placed) (t : Touch) : Type 0 where
  pub vertex : Contains (all_positions walks) t.pos
  pub side : Contains (segments_of_walks walks) t.segment
  pub within : IsTrue (is_within t.pos t.segment)

-- the segments cross
abbrev pub crossing_at : Segment → Segment → Crossing
crossing_at s t = record { first = s; second = t }

-- two segments of the walks cross, the lesser one first
pub record IsCrossing (walks : List Placed) (c : Crossing) : Type 0 where
  pub one : Contains (segments_of_walks walks) c.first
  pub other : Contains (segments_of_walks walks) c.second
  pub lesser : IsTrue (segment_lt c.first c.second)
  pub crosses : IsTrue (cross c.first c.second)

-- ---- all of them

-- the list has all that are such, and no others: ascending, each once
pub record ListsAll {X : Type 0} (cmp : X → X → Ordering) (Is : X → Type 0) (xs : List X)
    : Type 0 where
  pub ascending : IsStrictlySortedBy cmp xs
  pub all : (x : X) → Contains xs x ↔ Is x

-- the order by the vertex, then by the segment
abbrev pub touch_cmp : Touch → Touch → Ordering
touch_cmp t u = ordering_then (position_cmp t.pos u.pos) (segment_cmp t.segment u.segment)

-- the order by the lesser segment, then by the greater
abbrev pub crossing_cmp : Crossing → Crossing → Ordering
crossing_cmp c d = ordering_then (segment_cmp c.first d.first) (segment_cmp c.second d.second)

-- these are all findings in the walks
pub record AreFindings {A : Type 0} (walks : List Placed) (findings : Findings A) : Type 0 where
  pub short : findings.short.items ≡ short_walks walks
  pub repeats : findings.repeats.items ≡ all_repeats walks
  pub touches : ListsAll touch_cmp (IsTouch walks) findings.touches.items
  pub crossings : ListsAll crossing_cmp (IsCrossing walks) findings.crossings.items

-- these are all findings in a map of walks by feature, polygon and ring
abbrev pub Found : {A : Type 0} → List (List (List (List Position))) → Findings A → Type 0
Found polygons findings = AreFindings (walks_of polygons) findings

-- ---- too many

-- of each kind there are no more than so many
pub record AreAtMost {A : Type 0} (most : ℕ) (findings : Findings A) : Type 0 where
  pub short : length findings.short.items ≤ most
  pub repeats : length findings.repeats.items ≤ most
  pub touches : length findings.touches.items ≤ most
  pub crossings : length findings.crossings.items ≤ most

-- the list of all that are such has more than so many
pub record AreMore {X : Type 0} (most : ℕ) (cmp : X → X → Ordering) (Is : X → Type 0)
    : Type 0 where
  pub list : List X
  pub all : ListsAll cmp Is list
  pub more : most < length list

-- of some kind there are more findings in the walks than so many
abbrev pub HasMore : ℕ → List Placed → Type 0
HasMore most walks =
    (most < length (short_walks walks)) ⊎ (most < length (all_repeats walks))
    ⊎ AreMore most touch_cmp (IsTouch walks) ⊎ AreMore most crossing_cmp (IsCrossing walks)

-- that there are too many is said only where this holds
abbrev pub OnlyIfMany : Type 0 → FindFault → Type 0
OnlyIfMany Many TooMany = Many
OnlyIfMany Many OutOfMemory = Unit {0}

-- too many are more than so many of some kind
abbrev pub IsFindFault : ℕ → List (List (List (List Position))) → FindFault → Type 0
IsFindFault most polygons fault = OnlyIfMany (HasMore most (walks_of polygons)) fault
