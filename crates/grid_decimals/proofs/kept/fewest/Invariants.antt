use Rattle.kit_words.proofs.Common.{◌≡◌, ◌≤◌, ◌^◌}
use Rattle.grid_decimals.specs.Common.{fewest}
use Rattle.grid_decimals.proofs.kept.fewest.Given as goal

abbrev pub invariant-loop-decimals : goal.invariant-loop-decimals
invariant-loop-decimals l = record {
  value : fewest l.decimals l.wider l.length ≡ fewest l.most l.units l.length;
  bound : l.decimals ≤ l.most;
  small : l.wider ≤ 10 ^ 25;
}

abbrev pub decreases-loop-decimals : goal.decreases-loop-decimals
decreases-loop-decimals l = l.decimals
