use Rattle.kit_words.proofs.Common.{◌≡◌, ◌++◌, drop, ◌∷◌}
use Rattle.map_drawing.specs.Corners.{corners, corners_from}
use Rattle.map_drawing.proofs.corners.corners_after.Given as goal

-- what stays so far, and of the points that are left
abbrev pub invariant-loop-to : goal.invariant-loop-to
invariant-loop-to g l =
    l.kept.items ++ corners_from l.from l.at (drop l.to-index l.rest) ≡ corners (l.fn.first ∷ l.others)
