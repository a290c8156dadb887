use Rattle.kit_words.proofs.Common.{◌≡◌, take}
use Rattle.slab.specs.Slab.{get}
use Rattle.ring_store.specs.Common.{most, edge_count}
use Rattle.arc_tables.specs.Common.{path_in}
use Rattle.ring_store.proofs.neighbours.edge_count.Given as goal

abbrev pub invariant-loop-u : goal.invariant-loop-u
invariant-loop-u g l = l.count ≡ edge_count most (λ i. path_in (get l.arcs i)) (take l.u-index l.uses)
