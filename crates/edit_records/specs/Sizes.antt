-- How many positions the rings of features have.
use Rattle.std.specs.Prelude.{ℕ, List, length, Option, None, Some}
use Rattle.std.specs.List.{sum_by}
use Rattle.ring_machine.specs.Common.{Feature, rings_of}

-- the positions of a feature's rings, each ring counted for itself, and none where there is no feature
abbrev pub weight : Option Feature → ℕ
weight None = 0
weight (Some f) = sum_by length (rings_of f)

-- those of all these features
abbrev pub weights : List (ℕ × Option Feature) → ℕ
weights cs = sum_by (λ c. weight c.1) cs
