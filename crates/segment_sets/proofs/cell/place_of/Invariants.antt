use Rattle.kit_words.proofs.Common.{◌≡◌, take, false}
use Rattle.segment_sets.specs.Common.{has}
use Rattle.segment_sets.proofs.cell.place_of.Given as goal

abbrev pub invariant-loop-place : goal.invariant-loop-place
invariant-loop-place l = has (take l.place l.items) l.s ≡ false
