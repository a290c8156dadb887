use Rattle.kit_words.proofs.Common.{◌+◌, ◌-◌, length, ⊤}
use Rattle.map_opening.proofs.junctions.reach.Given as goal

abbrev pub invariant-loop-k : goal.invariant-loop-k
invariant-loop-k g l = ⊤

abbrev pub decreases-loop-k : goal.decreases-loop-k
decreases-loop-k g l = l.k + 1 - length l.around.items
