use Rattle.kit_words.proofs.Common.{◌≡◌}
use Rattle.map_opening.proofs.junctions.mark_junctions.Given as goal

-- no ring has changed
abbrev pub invariant-loop-ring : goal.invariant-loop-ring
invariant-loop-ring g l = l.borders ≡ l.initial.borders
