use Rattle.kit_words.proofs.Common.{take, IsPermutation}
use Rattle.layer_sides.proofs.begun.by_angle.Given as goal

-- those so far, in another order
abbrev pub invariant-loop-place : goal.invariant-loop-place
invariant-loop-place g l = IsPermutation (take l.place-index l.begun) l.found.items
