use Rattle.kit_words.proofs.Common.{take, flat_map}
use Rattle.arc_store.specs.Common.{ListsRingNames}
use Rattle.point_queries.specs.Common.{on_edge}
use Rattle.point_queries.proofs.border.push_on.Given as goal

-- the rings of the segments so far
abbrev pub invariant-loop-s : goal.invariant-loop-s
invariant-loop-s g l =
    ListsRingNames l.map.doc (flat_map (on_edge l.p) (take l.s-index l.near)) l.fn.out.items l.out.items
