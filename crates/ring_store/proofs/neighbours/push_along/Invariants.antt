use Rattle.kit_words.proofs.Common.{◌≡◌, take}
use Rattle.arc_tables.specs.Common.{links}
use Rattle.ring_store.specs.Common.{other_ends, gathered}
use Rattle.ring_store.proofs.neighbours.push_along.Given as goal

abbrev pub invariant-loop-at : goal.invariant-loop-at
invariant-loop-at g l = l.out.items ≡ gathered l.from l.initial.out.items (other_ends l.k (links (take l.at l.path)))
