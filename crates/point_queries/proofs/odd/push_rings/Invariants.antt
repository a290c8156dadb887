use Rattle.kit_words.proofs.Common.{take}
use Rattle.point_queries.specs.Common.{ListsOdd}
use Rattle.point_queries.proofs.odd.push_rings.Given as goal

-- the rings of the segments so far
abbrev pub invariant-loop-s : goal.invariant-loop-s
invariant-loop-s g l = ListsOdd l.map.doc (take l.s-index l.segments) l.fn.out.items l.out.items
