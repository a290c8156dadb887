use Rattle.kit_words.proofs.Common.{◌∷◌, take}
use Rattle.segment_index.specs.Common.{LieIn}
use Rattle.local_planarity.proofs.moving.reach.Given as goal

-- the way, and the segments so far, lie in the box
abbrev pub invariant-loop-s : goal.invariant-loop-s
invariant-loop-s l = LieIn l.rect (l.fn.way ∷ take l.s-index l.segments)
