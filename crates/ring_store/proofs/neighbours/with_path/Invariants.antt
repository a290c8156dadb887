use Rattle.kit_words.proofs.Common.{◌≡◌, take}
use Rattle.arc_tables.specs.Common.{links}
use Rattle.ring_store.specs.Common.{noted_all, other_ends}
use Rattle.ring_store.proofs.neighbours.with_path.Given as goal

abbrev pub invariant-loop-at : goal.invariant-loop-at
invariant-loop-at l = l.all ≡ noted_all l.fn.seen (other_ends l.k (links (take l.at l.path)))
