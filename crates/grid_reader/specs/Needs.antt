-- What the coordinates of points need of a grid: how many decimals they have, and how far the furthest is from 0.
use Rattle.std.specs.Prelude.{◌^◌, unsigned_abs, ℤ, nat_le, if◌then◌else◌, List, Option, Some, None}
use Rattle.std.specs.List.{fold}
use Rattle.json_spans.specs.Common.{Node}
use Rattle.decimal_texts.specs.Common.{Parts, parts_of, decimals, fine}
use Rattle.grid_reader.specs.Grid.{greater}
use Rattle.grid_reader.specs.declared.needs.PointNeeds.{PointNeeds}

-- the units of 10^-24 in a number, where they are fewer than 10^37
abbrev pub few_units : Option Parts → Option ℤ
few_units None = None
few_units (Some p) = if nat_le (10 ^ 37) (unsigned_abs (fine p)) then None else Some (fine p)

-- the same of a coordinate that is such a number
abbrev pub units_of : Node → Option ℤ
units_of n = few_units (parts_of n.bytes)

-- what is needed with one more coordinate, of so many units; one that is no such number needs nothing
abbrev pub with_units : PointNeeds → Option ℤ → PointNeeds
with_units needs None = needs
with_units needs (Some z) = record {
  decimals = greater needs.decimals (decimals z);
  furthest = greater needs.furthest (unsigned_abs z);
}

abbrev pub needs_with : PointNeeds → Node → PointNeeds
needs_with needs n = with_units needs (units_of n)

-- what no coordinate needs
abbrev pub no_needs : PointNeeds
no_needs = record { decimals = 0; furthest = 0 }

-- what these coordinates need, one after another
abbrev pub needs_of : List Node → PointNeeds
needs_of coordinates = fold needs_with no_needs coordinates
