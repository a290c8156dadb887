use Rattle.kit_words.proofs.Common.{◌≡◌, ◌++◌, drop}
use Rattle.map_drawing.specs.Corners.{apart, apart_from}
use Rattle.map_drawing.proofs.corners.apart.Given as goal

-- what stays so far, and of the points that are left
abbrev pub invariant-loop-point : goal.invariant-loop-point
invariant-loop-point g l = l.kept.items ++ apart_from l.before (drop l.point-index l.rest) ≡ apart l.ring
