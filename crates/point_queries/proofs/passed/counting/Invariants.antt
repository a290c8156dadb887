use Rattle.kit_words.proofs.Common.{◌≡◌, take, filter}
use Rattle.point_queries.specs.Common.{is_passed}
use Rattle.point_queries.proofs.passed.counting.Given as goal

-- those so far
abbrev pub invariant-loop-s : goal.invariant-loop-s
invariant-loop-s g l = l.found.items ≡ filter (is_passed l.p) (take l.s-index l.near)
