-- Positions that are in range on a grid.
use Rattle.std.specs.Prelude.{ℕ, ◌-◌, ◌*◌, ◌^◌, ◌≤◌, unsigned_abs}
use Rattle.grid_reader.specs.Fine.{FinePosition}

-- with so many decimals, on a grid 10^finer times as fine again, both coordinates are within 10^12
pub record IsNear (digits finer : ℕ) (p : FinePosition) : Type 0 where
  pub across : unsigned_abs p.x * 10 ^ digits ≤ 10 ^ (36 - finer)
  pub upward : unsigned_abs p.y * 10 ^ digits ≤ 10 ^ (36 - finer)
