use Rattle.kit_words.proofs.Common.{ℕ, ◌<◌}
use Rattle.point_queries.specs.Common.{CoversFeature}
use Rattle.point_queries.proofs.boxes.boxes_of.Given as goal

-- the features of the numbers so far lie in the boxes
abbrev pub invariant-loop-n : goal.invariant-loop-n
invariant-loop-n g l = (k : ℕ) → k < l.n → CoversFeature l.boxes l.map.doc k
