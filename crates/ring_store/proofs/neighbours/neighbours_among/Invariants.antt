use Rattle.kit_words.proofs.Common.{◌≡◌, take}
use Rattle.slab.specs.Slab.{get}
use Rattle.ring_store.specs.Common.{None, noted_all, ends_among}
use Rattle.arc_tables.specs.Common.{path_in}
use Rattle.ring_store.proofs.neighbours.neighbours_among.Given as goal

abbrev pub invariant-loop-i : goal.invariant-loop-i
invariant-loop-i g l = l.all ≡ noted_all None (ends_among (λ i. path_in (get l.arcs i)) (take l.i-index l.among) l.k)
