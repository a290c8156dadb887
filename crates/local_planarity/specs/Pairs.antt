-- The least pair in conflict, found by one test after another.
use Rattle.std.specs.Prelude.{ℕ, suc, Bool, not, ◌&&◌, List, [], ◌∷◌, Option, None, Some, if◌then◌else◌}
use Rattle.std.specs.List.{filter, fold}
use Rattle.grid_geometry.specs.Common.{Segment, box_of, boxes_meet, segment_lt, conflict}
use Rattle.ring_machine.specs.Common.{pair_lt}
use Rattle.local_planarity.specs.declared.leaving.Leaving.{Leaving}
use Rattle.local_planarity.specs.Edits.{goes_away}

-- s is tested against t in an edit: t does not leave, and its box meets that of s
abbrev pub is_tried : Leaving → Segment → Segment → Bool
is_tried leaving s t = boxes_meet (box_of t) (box_of s) && not (goes_away leaving t)

-- those of the others that s is tested against
abbrev pub tried : Leaving → Segment → List Segment → List Segment
tried leaving s others = filter (is_tried leaving s) others

-- two segments, the lesser one first
abbrev pub ordered : Segment → Segment → Segment × Segment
ordered s t = if segment_lt t s then (t, s) else (s, t)

-- the lesser of the pair that was found, if any, and another
abbrev pub lesser : Option (Segment × Segment) → Segment × Segment → Segment × Segment
lesser None v = v
lesser (Some u) v = if pair_lt v u then v else u

-- the pair that is found after s was tested against t
abbrev pub after_test : Segment → Option (Segment × Segment) → Segment
    → Option (Segment × Segment)
after_test s found t = if conflict s t then Some (lesser found (ordered s t)) else found

-- the least of the pair that was found before and of the pairs in conflict of s with the others
abbrev pub first_against : Segment → List Segment → Option (Segment × Segment)
    → Option (Segment × Segment)
first_against s others before = fold (after_test s) before others

-- how many of the others s is tested against, one after another, up to the first in conflict with it
abbrev pub tests_to_conflict : Segment → List Segment → ℕ
tests_to_conflict s [] = 0
tests_to_conflict s (t ∷ ts) = if conflict s t then 1 else suc (tests_to_conflict s ts)
