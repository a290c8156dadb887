use Rattle.kit_words.proofs.Common.{◌≡◌, take}
use Rattle.ring_store.specs.Common.{edge_counts, least_number}
use Rattle.ring_store.proofs.neighbours.shortest_of.Given as goal

abbrev pub invariant-loop-r : goal.invariant-loop-r
invariant-loop-r g l = l.least ≡ least_number l.fn.best (edge_counts l.arcs l.rings (take l.r-index l.users))
