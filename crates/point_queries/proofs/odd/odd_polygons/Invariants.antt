use Rattle.kit_words.proofs.Common.{take}
use Rattle.point_queries.specs.Common.{AreOdd}
use Rattle.point_queries.proofs.odd.odd_polygons.Given as goal

-- the polygons of the rings so far
abbrev pub invariant-loop-ring : goal.invariant-loop-ring
invariant-loop-ring g l = AreOdd (take l.ring-index l.rings) l.found
