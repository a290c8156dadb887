use Rattle.kit_words.proofs.Common.{◌≡◌, ◌++◌, take, drop}
use Rattle.layer_sides.proofs.under.take_out.Given as goal

abbrev pub invariant-loop : goal.invariant-loop
invariant-loop g l = l.list.items ≡ take l.from l.fn.list.items ++ drop l.counter l.fn.list.items
