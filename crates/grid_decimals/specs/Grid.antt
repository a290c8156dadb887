-- From the whole numbers of a grid to coordinates (TopoJSON 1.0, 2.1.2), in units of their last decimal.
use Rattle.std.specs.Prelude.{ℕ, ℤ, pos, ◌*◌, ◌^◌, ◌+ℤ◌, ◌*ℤ◌, ◌-◌, ◌==◌, ◌&&◌, nat_le, unsigned_abs, max, Bool, true, false, not, if◌then◌else◌}
use Rattle.std.specs.Prelude.{List, [], ◌∷◌, Option, Some, None, codes, int_lt}
use Rattle.std.specs.List.{flat_map}
use Rattle.std.specs.Int.{int_div_euclid}
use Rattle.json_spans.specs.Common.{Node, items}
use Rattle.decimal_texts.specs.Common.{Parts, parts_of, value_in}
use Rattle.grid_decimals.specs.Number.{decimals_of, units_of}
use Rattle.grid_decimals.specs.Written.{number_text}

-- how long a unit of the grid is along an axis, and where its 0 lies, in units of the last decimal
pub record AxisOf : Type 0 where
  pub scale : ℤ
  pub translate : ℤ

-- how many decimals scale and translate have at the most, and the axes
pub record GridOf : Type 0 where
  pub is_given : Bool
  pub decimals : ℕ
  pub x : AxisOf
  pub y : AxisOf

-- the grid of a map without a transform: its coordinates are as they stand
abbrev pub whole_grid : GridOf
whole_grid = record {
  is_given = false;
  decimals = 0;
  x = record { scale = pos 1; translate = pos 0 };
  y = record { scale = pos 1; translate = pos 0 };
}

-- ---- the transform

-- the items of a member of the transform
abbrev pub numbers_in : List ℕ → List ℕ → List Node
numbers_in name transform = flat_map items (value_in name (record { at_byte = 0; bytes = transform }))

-- both, where they are there
abbrev pub both : {A : Type 0} → Option A → Option A → Option (A × A)
both (Some a) (Some b) = Some (a, b)
both _ _ = None

-- two numbers, by their parts
abbrev pub two_parts : List Node → Option (Parts × Parts)
two_parts (a ∷ b ∷ []) = both (parts_of a.bytes) (parts_of b.bytes)
two_parts _ = None

-- an axis whose scale is not 0, and whose numbers are such that no coordinate has more than 37 digits
abbrev pub fits_axis : AxisOf → Bool
fits_axis a = not (unsigned_abs a.scale == 0)
    && (nat_le (unsigned_abs a.scale) (10 ^ 25) && nat_le (unsigned_abs a.translate) (10 ^ 37))

abbrev pub axis_of : ℕ → Parts → Parts → AxisOf
axis_of d scale translate = record { scale = units_of d scale; translate = units_of d translate }

-- the grid of these numbers, of at most 36 decimals
abbrev pub fitting : GridOf → Option GridOf
fitting g = if nat_le g.decimals 36 && (fits_axis g.x && fits_axis g.y) then Some g else None

abbrev pub grid_with : ℕ → Parts × Parts → Parts × Parts → GridOf
grid_with d scale translate = record {
  is_given = true;
  decimals = d;
  x = axis_of d scale.0 translate.0;
  y = axis_of d scale.1 translate.1;
}

abbrev pub most_decimals : Parts × Parts → Parts × Parts → ℕ
most_decimals scale translate =
    max (max (decimals_of scale.0) (decimals_of scale.1)) (max (decimals_of translate.0) (decimals_of translate.1))

abbrev pub grid_by : Option (Parts × Parts) → Option (Parts × Parts) → Option GridOf
grid_by (Some scale) (Some translate) = fitting (grid_with (most_decimals scale translate) scale translate)
grid_by _ _ = None

-- the grid of a map, where the numbers of its transform are neither too long nor too large
abbrev pub grid_of : Option (List ℕ) → Option GridOf
grid_of None = Some whole_grid
grid_of (Some t) =
    grid_by (two_parts (numbers_in (codes "scale") t)) (two_parts (numbers_in (codes "translate") t))

-- exactly one of the scales is negative, so that what turns to the left on the grid turns to the right on the map
abbrev pub is_flipped : GridOf → Bool
is_flipped g = if int_lt g.x.scale (pos 0) then not (int_lt g.y.scale (pos 0)) else int_lt g.y.scale (pos 0)

-- ---- coordinates

-- where a whole number of the grid lies
abbrev pub coordinate_of : AxisOf → ℤ → ℤ
coordinate_of a n = (n *ℤ a.scale) +ℤ a.translate

-- so many units of 10^-d as units of 10^-k, where k is at most d: the nearest, and halves up
abbrev pub nearest : ℕ → ℕ → ℤ → ℤ
nearest d k z = int_div_euclid (pos 2 *ℤ z +ℤ pos (10 ^ (d - k))) (pos (2 * 10 ^ (d - k)))

-- the text of a coordinate with k decimals
abbrev pub coordinate_text : ℕ → ℕ → AxisOf → ℤ → List ℕ
coordinate_text d k a n = number_text k (nearest d k (coordinate_of a n))

abbrev pub x_text : GridOf → ℕ → ℤ → List ℕ
x_text g k n = coordinate_text g.decimals k g.x n

abbrev pub y_text : GridOf → ℕ → ℤ → List ℕ
y_text g k n = coordinate_text g.decimals k g.y n
