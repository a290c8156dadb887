-- Positions put under keys.
use Rattle.std.specs.Prelude.{ℕ, ◌≡◌, ◌⊎◌, List, Some, IsTrue, Contains}
use Rattle.std.specs.FinMap as table
use Rattle.grid_geometry.specs.Common.{Position}
use Rattle.vertex_index.specs.Common.{Placement}

-- what had a key has kept it, each of these keys has a position, and no other key came
pub record ArePut (old new : Placement) (keys : List ℕ) : Type 0 where
  pub kept : (k : ℕ) (p : Position) → table.get old k ≡ Some p → table.get new k ≡ Some p
  pub placed : (k : ℕ) → Contains keys k → IsTrue (table.contains_key new k)
  pub passed : (k : ℕ) → IsTrue (table.contains_key new k)
      → IsTrue (table.contains_key old k) ⊎ Contains keys k
