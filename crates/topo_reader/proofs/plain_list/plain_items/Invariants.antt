use Rattle.kit_words.proofs.Common.{map}
use Rattle.topo_reader.specs.Common.{positions_of}
use Rattle.topo_reader.proofs.PlainArcs.{left_len}
use Rattle.topo_reader.proofs.PlainLists.{Continues}
use Rattle.topo_reader.proofs.plain_list.plain_items.Given as goal

abbrev pub invariant-loop-more : goal.invariant-loop-more
invariant-loop-more g l = Continues l.delta l.fn.inside (map positions_of l.found.items) l.more l.left

abbrev pub decreases-loop-more : goal.decreases-loop-more
decreases-loop-more g l = left_len l.more l.left
