use Rattle.kit_words.proofs.Common.{◌≡◌, take, filter}
use Rattle.point_queries.specs.Common.{is_of_holder}
use Rattle.point_queries.proofs.inside.held.Given as goal

-- those so far
abbrev pub invariant-loop-ring : goal.invariant-loop-ring
invariant-loop-ring g l = l.found.items ≡ filter (is_of_holder l.polygons l.border) (take l.ring-index l.rings)
