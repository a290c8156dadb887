use Rattle.kit_words.proofs.Common.{take}
use Rattle.feature_exchange.specs.Common.{LeavesVisited}
use Rattle.feature_exchange.proofs.lonely.remove_all_lonely.Given as goal

-- of the keys so far those that a ring visits are left
abbrev pub invariant-loop-at : goal.invariant-loop-at
invariant-loop-at g l = LeavesVisited l.borders (take l.at l.keys) l.initial.vertices l.vertices
