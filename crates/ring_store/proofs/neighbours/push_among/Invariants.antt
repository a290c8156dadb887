use Rattle.kit_words.proofs.Common.{◌≡◌, take}
use Rattle.slab.specs.Slab.{get}
use Rattle.ring_store.specs.Common.{ends_among, gathered}
use Rattle.arc_tables.specs.Common.{path_in}
use Rattle.ring_store.proofs.neighbours.push_among.Given as goal

abbrev pub invariant-loop-i : goal.invariant-loop-i
invariant-loop-i g l = l.out.items ≡ gathered l.from l.initial.out.items (ends_among (λ i. path_in (get l.arcs i)) (take l.i-index l.among) l.k)
