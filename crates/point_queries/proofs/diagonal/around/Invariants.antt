use Rattle.kit_words.proofs.Common.{take}
use Rattle.point_queries.specs.Common.{box_at, IsLeast}
use Rattle.point_queries.proofs.diagonal.around.Given as goal

-- the least box for those so far
abbrev pub invariant-loop-d : goal.invariant-loop-d
invariant-loop-d l = IsLeast (box_at l.fn.p) (take l.d-index l.boxes) l.rect
