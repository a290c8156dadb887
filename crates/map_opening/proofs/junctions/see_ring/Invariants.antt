use Rattle.kit_words.proofs.Common.{◌≡◌}
use Rattle.map_opening.proofs.junctions.see_ring.Given as goal

-- no ring has changed
abbrev pub invariant-loop-at : goal.invariant-loop-at
invariant-loop-at g l = l.borders ≡ l.initial.borders
