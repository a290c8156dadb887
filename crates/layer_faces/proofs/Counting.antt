-- How much room is left on the way over nested lists, and the lists that stand in them.
use Rattle.kit_words.proofs.Common.{◌≡◌, ℕ, ◌+◌, List, drop, map, Vec}
use Rattle.std.specs.Prelude.{sum_by}
use Rattle.grid_geometry.specs.Common.{Position}

-- the positions of a ring, and the rings of a polygon
abbrev pub positions_of : {A : Type 0} → Vec Position A → List Position
positions_of ring = ring.items

abbrev pub polygon_positions : {A : Type 0} → Vec (Vec Position A) A → List (List Position)
polygon_positions polygon = map positions_of polygon.items

-- the room that is left, and what is left of the sum
abbrev pub Counts : {X Y : Type 0} → (Y → ℕ) → (X → Y) → List X → ℕ → ℕ → ℕ → Type 0
Counts f v xs room left i = left + sum_by f (map v xs) ≡ room + sum_by f (map v (drop i xs))
