use Rattle.kit_words.proofs.Common.{◌≡◌, length}
use Rattle.layer_sides.proofs.faces.Faces.labels.Given as goal

-- a label for each side so far
abbrev pub invariant-loop-side : goal.invariant-loop-side
invariant-loop-side g l = length l.labels.items ≡ l.side
