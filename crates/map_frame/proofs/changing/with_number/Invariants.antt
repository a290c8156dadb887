use Rattle.kit_words.proofs.Common.{◌≡◌, take}
use Rattle.map_frame.specs.Common.{with_number}
use Rattle.map_frame.proofs.changing.with_number.Given as goal

-- the numbers so far, the new one with them
abbrev pub invariant-loop-m : goal.invariant-loop-m
invariant-loop-m g l = l.longer.items ≡ with_number l.n l.number (take l.m-index l.numbers)
