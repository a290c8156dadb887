-- What is still to come of a ring that is gone round from its least position on.
use Rattle.std.specs.Prelude.{ℕ, ◌≤◌, ◌+◌, List, ◌++◌, map, take, length, IsTrue, Contains}
use Rattle.std.specs.FinMap as table
use Rattle.grid_geometry.specs.Common.{Position}
use Rattle.vertex_index.specs.Common.{Placement, place}

-- so many positions: those under the rest of the keys, and then under all keys from the first on
abbrev pub positions_left : Placement → List ℕ → List ℕ → ℕ → List Position
positions_left places all rest left = take left (map (place places) (rest ++ all))

-- so many are there, and each key is that of a vertex
pub record IsAround (places : Placement) (all rest : List ℕ) (left : ℕ) : Type 0 where
  pub enough : left ≤ length rest + length all
  pub all_placed : (k : ℕ) → Contains all k → IsTrue (table.contains_key places k)
  pub rest_placed : (k : ℕ) → Contains rest k → IsTrue (table.contains_key places k)
