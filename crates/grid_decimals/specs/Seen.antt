-- What the code holds of numbers and of a grid, as the definitions see it.
use Rattle.std.specs.Prelude.{◌≡◌, ◌<◌, ◌^◌, Option, Some, None, option_map, ◌⊎◌}
use Rattle.decimal_texts.specs.Common.{Parts}
use Rattle.grid_decimals.specs.Number.{power_of, size_of}
use Rattle.grid_decimals.specs.Grid.{AxisOf, GridOf}
use Rattle.grid_decimals.specs.declared.number.Number.{Number}
use Rattle.grid_decimals.specs.declared.axis.Axis.{Axis}
use Rattle.grid_decimals.specs.declared.grid.Grid.{Grid}

-- the number has these parts
pub record HasParts (n : Number) (p : Parts) : Type 0 where
  pub sign : n.is_negative ≡ p.is_negative
  pub size : n.size ≡ size_of p
  pub power : n.power ≡ power_of p

-- a number is read where there is one and its digits are not over 10^37
abbrev pub IsRead : Option Number → Option Parts → Type 0
IsRead (Some n) (Some p) = HasParts n p
IsRead (Some n) None = ⊥
IsRead None (Some p) = 10 ^ 37 < size_of p
IsRead None None = Unit {0}

-- both numbers, where both are there
abbrev pub AreRead : Option (Number × Number) → Option (Parts × Parts) → Type 0
AreRead (Some n) (Some p) = HasParts n.0 p.0 × HasParts n.1 p.1
AreRead (Some n) None = ⊥
AreRead None (Some p) = (10 ^ 37 < size_of p.0) ⊎ (10 ^ 37 < size_of p.1)
AreRead None None = Unit {0}

abbrev pub view_axis : Axis → AxisOf
view_axis a = record { scale = a.scale; translate = a.translate }

abbrev pub view_grid : Grid → GridOf
view_grid g = record {
  is_given = g.is_given;
  decimals = g.decimals;
  x = view_axis g.x;
  y = view_axis g.y;
}

-- the grid, where there is one
abbrev pub view_found : Option Grid → Option GridOf
view_found found = option_map view_grid found
