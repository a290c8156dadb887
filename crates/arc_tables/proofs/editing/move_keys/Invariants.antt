use Rattle.kit_words.proofs.Common.{◌≡◌, map, take, drop, ◌++◌}
use Rattle.arc_tables.specs.Common.{onto}
use Rattle.arc_tables.proofs.editing.move_keys.Given as goal

abbrev pub invariant-loop-k : goal.invariant-loop-k
invariant-loop-k l = l.keys ≡ map (onto l.p l.b) (take l.k-index l.fn.keys) ++ drop l.k-index l.fn.keys
