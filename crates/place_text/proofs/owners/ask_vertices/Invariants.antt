use Rattle.kit_words.proofs.Common.{◌≡◌, map, take}
use Rattle.grid_geometry.specs.Common.{Position, position_cmp}
use Rattle.place_text.specs.Common.{numbers_in, asked_with, touch_pos}
use Rattle.place_text.proofs.owners.ask_vertices.Given as goal

-- the vertices so far are asked for
abbrev pub invariant-loop-touch : goal.invariant-loop-touch
invariant-loop-touch g l =
    (p : Position) → numbers_in position_cmp l.table p ≡ asked_with position_cmp (map touch_pos (take l.touch-index l.touches)) p (numbers_in position_cmp l.fn.table p)
