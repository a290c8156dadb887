use Rattle.kit_words.proofs.Common.{◌≡◌, ◌++◌, take}
use Rattle.slab.specs.Slab.{get}
use Rattle.arc_tables.specs.Common.{chain, begins, path_of, uses_in}
use Rattle.ring_store.proofs.ring_keys.push_ring_keys.Given as goal

abbrev pub invariant-loop-u : goal.invariant-loop-u
invariant-loop-u g l = l.out.items ≡ l.initial.out.items ++ begins (chain (path_of l.tables) (take l.u-index (uses_in (get l.tables.rings l.r))))
