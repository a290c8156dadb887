use Rattle.arc_tables.specs.Common.{UnlistsOff}
use Rattle.arc_tables.proofs.standing.unlist_moved.Given as goal

abbrev pub invariant-loop-k : goal.invariant-loop-k
invariant-loop-k g l = UnlistsOff l.path l.fn.stands.items l.stands.items l.i
