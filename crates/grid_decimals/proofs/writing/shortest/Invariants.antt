use Rattle.kit_words.proofs.Common.{◌≡◌, ◌≤◌}
use Rattle.grid_decimals.specs.Common.{shortest}
use Rattle.grid_decimals.proofs.writing.shortest.Given as goal

abbrev pub invariant-loop-kept : goal.invariant-loop-kept
invariant-loop-kept l = record {
  value : shortest l.kept l.short ≡ shortest l.decimals l.units;
  bound : l.kept ≤ l.decimals;
}

abbrev pub decreases-loop-kept : goal.decreases-loop-kept
decreases-loop-kept l = l.kept
