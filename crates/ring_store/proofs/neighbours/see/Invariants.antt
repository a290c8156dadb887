use Rattle.kit_words.proofs.Common.{◌+◌, ◌-◌, [], vec_len}
use Rattle.ring_store.specs.Common.{SeesMore}
use Rattle.ring_store.proofs.neighbours.see.Given as goal

-- nothing is seen yet
abbrev pub invariant-loop-table : goal.invariant-loop-table
invariant-loop-table g l = SeesMore l.fn.table.items l.table.items (λ j. [])

abbrev pub decreases-loop-table : goal.decreases-loop-table
decreases-loop-table g l = l.k + 1 - vec_len l.table
