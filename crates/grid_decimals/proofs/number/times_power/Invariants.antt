use Rattle.kit_words.proofs.Common.{◌≡◌, ◌≤◌, ◌*◌, ◌^◌}
use Rattle.grid_decimals.proofs.number.times_power.Given as goal

abbrev pub invariant-loop : goal.invariant-loop
invariant-loop l = record {
  value : l.longer ≡ l.number * 10 ^ l.counter;
  bound : l.longer ≤ 10 ^ 37;
}
