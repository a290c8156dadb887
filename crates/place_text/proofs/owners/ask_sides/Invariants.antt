use Rattle.kit_words.proofs.Common.{◌≡◌, map, take}
use Rattle.grid_geometry.specs.Common.{Segment, segment_cmp}
use Rattle.place_text.specs.Common.{numbers_in, asked_with, side_segment}
use Rattle.place_text.proofs.owners.ask_sides.Given as goal

-- the segments so far are asked for
abbrev pub invariant-loop-side : goal.invariant-loop-side
invariant-loop-side g l =
    (s : Segment) → numbers_in segment_cmp l.table s ≡ asked_with segment_cmp (map side_segment (take l.side-index l.sides)) s (numbers_in segment_cmp l.fn.table s)
