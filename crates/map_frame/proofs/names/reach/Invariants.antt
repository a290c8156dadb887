use Rattle.kit_words.proofs.Common.{◌≤◌, ◌+◌, ◌-◌, length}
use Rattle.map_frame.specs.Common.{SameNames}
use Rattle.map_frame.proofs.names.reach.Given as goal

-- the same rings have the same names
abbrev pub invariant-loop-names : goal.invariant-loop-names
invariant-loop-names g l = record {
  same : SameNames l.fn.names.items l.names.items;
  longer : length l.fn.names.items ≤ length l.names.items;
}

abbrev pub decreases-loop-names : goal.decreases-loop-names
decreases-loop-names g l = l.r + 1 - length l.names.items
