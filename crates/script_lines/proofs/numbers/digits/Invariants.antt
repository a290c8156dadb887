use Rattle.kit_words.proofs.Common.{◌≡◌, ◌≤◌, ◌-◌, take, AllDigits, digits_value}
use Rattle.script_lines.proofs.numbers.digits.Given as goal

abbrev pub invariant-loop-len : goal.invariant-loop-len
invariant-loop-len l = record {
  value : l.value ≡ digits_value 10 (take l.len l.bytes);
  are : AllDigits 10 (take l.len l.bytes);
  within : l.len ≤ l.end;
}

abbrev pub decreases-loop-len : goal.decreases-loop-len
decreases-loop-len l = l.end - l.len
