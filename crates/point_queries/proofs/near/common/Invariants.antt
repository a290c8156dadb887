use Rattle.kit_words.proofs.Common.{◌≡◌, take, filter, list_any}
use Rattle.point_queries.specs.Common.{is_name}
use Rattle.point_queries.proofs.near.common.Given as goal

-- those so far
abbrev pub invariant-loop-name : goal.invariant-loop-name
invariant-loop-name g l = l.found.items ≡ filter (λ name. list_any (λ other. is_name other name) l.others) (take l.name-index l.names)
