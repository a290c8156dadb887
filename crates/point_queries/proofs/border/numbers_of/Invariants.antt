use Rattle.kit_words.proofs.Common.{◌≡◌, map, take}
use Rattle.point_queries.proofs.border.numbers_of.Given as goal

-- the numbers so far
abbrev pub invariant-loop-name : goal.invariant-loop-name
invariant-loop-name g l = l.found.items ≡ map (λ name. name.feature) (take l.name-index l.names)
