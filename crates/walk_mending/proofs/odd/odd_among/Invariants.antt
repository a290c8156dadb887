use Rattle.kit_words.proofs.Common.{take}
use Rattle.walk_mending.proofs.Cancelling.{IsKept}
use Rattle.walk_mending.proofs.odd.odd_among.Given as goal

-- the odd ones of the segments so far
abbrev pub invariant-loop-segment : goal.invariant-loop-segment
invariant-loop-segment g l = IsKept (take l.segment-index l.sorted) l.kept.items
