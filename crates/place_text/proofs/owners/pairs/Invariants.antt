use Rattle.kit_words.proofs.Common.{◌≡◌, List, map, take}
use Rattle.std.specs.Prelude.{All}
use Rattle.grid_geometry.specs.Common.{Position}
use Rattle.place_text.specs.Common.{pair_features, numbers_held, AnswersBoth}
use Rattle.place_text.proofs.owners.pairs.Given as goal

-- the pairs so far
abbrev pub invariant-loop-pair : goal.invariant-loop-pair
invariant-loop-pair g l =
    (features : List (List (List (List Position))))
    → All (AnswersBoth features l.tables.segments) l.crossings
    → map numbers_held l.pairs.items ≡ map (pair_features features) (take l.pair-index l.crossings)
