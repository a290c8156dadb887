use Rattle.kit_words.proofs.Common.{◌≡◌, ◌≤◌}
use Rattle.grid_reader.specs.Common.{fitting}
use Rattle.grid_reader.proofs.grid.fitting.Given as goal

abbrev pub invariant-loop-kept : goal.invariant-loop-kept
invariant-loop-kept l = record { same : fitting l.finer l.far l.kept ≡ fitting l.finer l.far l.most; few : l.kept ≤ l.most }

abbrev pub decreases-loop-kept : goal.decreases-loop-kept
decreases-loop-kept l = l.kept
