use Rattle.kit_words.proofs.Common.{◌≡◌, map, take, not, ◌==◌, filter}
use Rattle.point_queries.proofs.sharing.others.Given as goal

-- the numbers so far
abbrev pub invariant-loop-name : goal.invariant-loop-name
invariant-loop-name g l =
    l.found.items ≡ filter (λ m. not (m == l.f)) (map (λ name. name.feature) (take l.name-index l.names))
