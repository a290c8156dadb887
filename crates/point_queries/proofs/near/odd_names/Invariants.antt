use Rattle.kit_words.proofs.Common.{take}
use Rattle.point_queries.specs.Common.{HaveOdd}
use Rattle.point_queries.proofs.near.odd_names.Given as goal

-- those of the names so far
abbrev pub invariant-loop-name : goal.invariant-loop-name
invariant-loop-name g l = HaveOdd (take l.name-index l.names) l.found.items
