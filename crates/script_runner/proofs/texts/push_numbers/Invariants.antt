use Rattle.kit_words.proofs.Common.{◌≡◌, ◌++◌, take}
use Rattle.script_runner.specs.Common.{spaced_numbers}
use Rattle.script_runner.proofs.texts.push_numbers.Given as goal

-- the numbers so far
abbrev pub invariant-loop-number : goal.invariant-loop-number
invariant-loop-number g l = l.text.items ≡ l.fn.text.items ++ spaced_numbers (take l.number-index l.numbers)
