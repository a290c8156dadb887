use Rattle.kit_words.proofs.Common.{◌≡◌, take, None}
use Rattle.ring_store.specs.Common.{edge_counts, least_number}
use Rattle.ring_store.specs.Shortest.{rings_along}
use Rattle.ring_store.proofs.neighbours.shortest_among.Given as goal

abbrev pub invariant-loop-i : goal.invariant-loop-i
invariant-loop-i g l = l.least ≡ least_number None (edge_counts l.arcs l.rings (rings_along l.arcs (take l.i-index l.among) l.k))
