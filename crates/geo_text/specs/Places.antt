-- Where the points of a map stand in its text.
use Rattle.std.specs.Prelude.{ℕ, ◌+◌, List, map, get_or, Result, Ok, Err}
use Rattle.decimal_texts.specs.Common.{all_geometries}
use Rattle.decimal_texts.specs.Dropped.{whole_value}
use Rattle.decimal_texts.specs.declared.geometries.Shape.TheVariants as shape
use Rattle.topo_outline.specs.Common.{not_whole, out_of_range}
use Rattle.geo_features.specs.Faults.{GeoFault, of_map, point_not_whole, point_out_of_range}

-- the place of point n
abbrev pub point_place : List ℕ → ℕ → ℕ
point_place bytes n = get_or (map (λ p. p.at_byte) (all_geometries shape.Points (whole_value bytes))) n 0

-- a fault of a point's coordinate is the map's at the place in the map's text
abbrev pub in_map : List ℕ → GeoFault → GeoFault
in_map bytes (point_not_whole n place) = of_map (not_whole (point_place bytes n + place))
in_map bytes (point_out_of_range n place) = of_map (out_of_range (point_place bytes n + place))
in_map bytes fault = fault

abbrev pub placed : {A : Type 0} → List ℕ → Result A GeoFault → Result A GeoFault
placed bytes (Ok a) = Ok a
placed bytes (Err fault) = Err (in_map bytes fault)
