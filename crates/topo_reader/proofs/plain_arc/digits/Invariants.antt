use Rattle.kit_words.proofs.Common.{◌≡◌, ◌<◌, ◌^◌, take, true, list_all}
use Rattle.json_spans.specs.Common.{is_digit, value_from}
use Rattle.topo_reader.proofs.plain_arc.digits.Given as goal

abbrev pub invariant-loop-i : goal.invariant-loop-i
invariant-loop-i l = record {
  value : l.value ≡ value_from 0 (take l.i l.bytes);
  are : list_all is_digit (take l.i l.bytes) ≡ true;
  small : l.value < 10 ^ 18;
}
