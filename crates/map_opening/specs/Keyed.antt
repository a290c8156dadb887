-- Rings by the keys of their positions.
use Rattle.std.specs.Prelude.{ℕ, ◌≡◌, List, map, IsTrue, Contains}
use Rattle.std.specs.FinMap as table
use Rattle.std.specs.List.{flat_map}
use Rattle.grid_geometry.specs.Common.{Position}
use Rattle.vertex_index.specs.Common.{Placement, place}

-- all keys of these rings
abbrev pub all_keys : List (List ℕ) → List ℕ
all_keys keyed = flat_map (λ keys. keys) keyed

-- each position of these rings stands under its key, and nothing else has a key
pub record IsKeyed (places : Placement) (rings : List (List Position)) (keyed : List (List ℕ)) : Type 0 where
  pub at : map (map (place places)) keyed ≡ rings
  pub placed : (k : ℕ) → Contains (all_keys keyed) k → IsTrue (table.contains_key places k)
  pub passed : (k : ℕ) → IsTrue (table.contains_key places k) → Contains (all_keys keyed) k
