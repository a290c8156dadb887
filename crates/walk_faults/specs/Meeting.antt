-- What meets among ascending segments, in order.
use Rattle.std.specs.Prelude.{◌≡◌, ◌&&◌, List, map}
use Rattle.std.specs.FinSet as set
use Rattle.std.specs.List.{filter, flat_map}
use Rattle.std.specs.List.Sorted.{IsStrictlySortedBy}
use Rattle.grid_geometry.specs.Common.{Position, Segment, segment_cmp, segment_lt, cross, is_within}
use Rattle.segment_index.specs.Common.{SegmentSet, has}
use Rattle.walk_faults.specs.declared.findings.Touch.{Touch}
use Rattle.walk_faults.specs.declared.findings.Crossing.{Crossing}
use Rattle.walk_faults.specs.Findings.{touch_at, crossing_at}

-- the list has the held segments, ascending
pub record AreHeld (held : SegmentSet) (ss : List Segment) : Type 0 where
  pub ascending : IsStrictlySortedBy segment_cmp ss
  pub same : (t : Segment) → set.contains held t ≡ has ss t

-- the segments on which p lies and of which it is no end
abbrev pub touching : Position → List Segment → List Segment
touching p ss = filter (is_within p) ss

-- the segments after s that cross it
abbrev pub crossing : Segment → List Segment → List Segment
crossing s ss = filter (λ t. segment_lt s t && cross s t) ss

-- each of these vertices with the segments on which it lies and of which it is no end
abbrev pub touches_among : List Position → List Segment → List Touch
touches_among ps ss = flat_map (λ p. map (touch_at p) (touching p ss)) ps

-- each of the first segments with those of the others that are after it and cross it
abbrev pub crossings_among : List Segment → List Segment → List Crossing
crossings_among firsts ss = flat_map (λ s. map (crossing_at s) (crossing s ss)) firsts
