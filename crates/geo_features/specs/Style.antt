-- How rings and points are written.
use Rattle.std.specs.Prelude.{ℕ, Bool}
use Rattle.grid_decimals.specs.Common.{GridOf}

-- how rings and points are written: on which grid, with how many decimals, and whether rings keep their direction
pub record Style : Type 0 where
  pub grid : GridOf
  pub decimals : ℕ
  pub keeps_winding : Bool
