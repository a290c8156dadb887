use Rattle.kit_words.proofs.Common.{◌≡◌, map, take}
use Rattle.grid_geometry.specs.Common.{Segment, segment_cmp}
use Rattle.segment_paths.specs.Common.{path_of_segment}
use Rattle.place_text.specs.Common.{numbers_in, asked_with, path_segment}
use Rattle.place_text.proofs.owners.ask_paths.Given as goal

-- the segments so far are asked for
abbrev pub invariant-loop-path : goal.invariant-loop-path
invariant-loop-path g l =
    (s : Segment) → numbers_in segment_cmp l.table s
    ≡ asked_with segment_cmp (map (λ path. path_segment (path_of_segment path)) (take l.path-index l.paths)) s (numbers_in segment_cmp l.fn.table s)
