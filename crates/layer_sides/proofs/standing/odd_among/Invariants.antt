use Rattle.kit_words.proofs.Common.{take}
use Rattle.layer_sides.proofs.Cancelling.{IsKept}
use Rattle.layer_sides.proofs.standing.odd_among.Given as goal

-- the odd ones of those so far
abbrev pub invariant-loop-x : goal.invariant-loop-x
invariant-loop-x g l = IsKept (take l.x-index l.sorted) l.kept.items
