use Rattle.kit_words.proofs.Common.{◌≤◌, ◌-◌, length}
use Rattle.layer_sides.proofs.under.place_of.Given as goal

-- a part of the list is left to be looked at
abbrev pub invariant-loop-low : goal.invariant-loop-low
invariant-loop-low g l = (l.low ≤ l.high) × (l.high ≤ length l.list)

abbrev pub decreases-loop-low : goal.decreases-loop-low
decreases-loop-low g l = l.high - l.low
