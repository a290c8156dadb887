use Rattle.kit_words.proofs.Common.{◌≡◌, ◌≤◌, ◌^◌, drop}
use Rattle.json_spans.specs.Common.{value_from}
use Rattle.grid_decimals.proofs.number.read_digits.Given as goal

abbrev pub invariant-loop-x : goal.invariant-loop-x
invariant-loop-x l = record {
  value : value_from l.read (drop l.x-index l.digits) ≡ value_from l.number l.digits;
  bound : l.read ≤ 10 ^ 37;
}
