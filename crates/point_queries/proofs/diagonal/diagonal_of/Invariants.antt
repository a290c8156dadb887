use Rattle.point_queries.proofs.BoxedRings.{HasBelow}
use Rattle.point_queries.proofs.diagonal.diagonal_of.Given as goal

-- the box has the positions so far
abbrev pub invariant-loop-p : goal.invariant-loop-p
invariant-loop-p l = HasBelow l.diagonal l.ring l.p-index
