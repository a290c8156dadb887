use Rattle.kit_words.proofs.Common.{◌≡◌, ◌++◌, ◌∷◌, drop}
use Rattle.walk_faults.proofs.Neighbours.{twice}
use Rattle.walk_faults.proofs.repeats.equal_neighbours.Given as goal

-- those so far and those of what is left are all
abbrev pub invariant-loop-p : goal.invariant-loop-p
invariant-loop-p g l = l.found.items ++ twice (l.before ∷ drop l.p-index l.rest) ≡ twice l.sorted
