use Rattle.topo_reader.proofs.PlainArcs.{left_len, Continues}
use Rattle.topo_reader.proofs.plain_arc.plain_positions.Given as goal

abbrev pub invariant-loop-more : goal.invariant-loop-more
invariant-loop-more g l = Continues l.delta l.fn.inside l.found.items l.before l.more l.left

abbrev pub decreases-loop-more : goal.decreases-loop-more
decreases-loop-more g l = left_len l.more l.left
