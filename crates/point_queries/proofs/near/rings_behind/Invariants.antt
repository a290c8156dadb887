use Rattle.kit_words.proofs.Common.{take}
use Rattle.point_queries.specs.Common.{AreBehind}
use Rattle.point_queries.proofs.near.rings_behind.Given as goal

-- the rings of those so far
abbrev pub invariant-loop-s : goal.invariant-loop-s
invariant-loop-s g l = AreBehind l.map.doc l.p l.suspects (take l.s-index l.near) l.names.items
