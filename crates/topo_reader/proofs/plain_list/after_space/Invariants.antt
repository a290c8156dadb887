use Rattle.topo_reader.proofs.PlainLists.{Spaced}
use Rattle.topo_reader.proofs.plain_list.after_space.Given as goal

abbrev pub invariant-loop-i : goal.invariant-loop-i
invariant-loop-i l = Spaced l.bytes l.i
