use Rattle.kit_words.proofs.Common.{take}
use Rattle.arc_tables.specs.Common.{links}
use Rattle.ring_store.specs.Common.{other_ends, SeesMore}
use Rattle.ring_store.proofs.neighbours.see_path.Given as goal

abbrev pub invariant-loop-at : goal.invariant-loop-at
invariant-loop-at g l = SeesMore l.fn.table.items l.table.items (λ j. other_ends j (links (take l.at l.path)))
