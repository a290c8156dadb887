use Rattle.kit_words.proofs.Common.{◌++◌, take}
use Rattle.segment_sets.specs.Common.{IsSame}
use Rattle.segment_sets.proofs.cell.Cell.part.Given as goal

abbrev pub invariant-loop-t : goal.invariant-loop-t
invariant-loop-t g l = IsSame (take l.t-index l.self) (l.along ++ l.aside)
