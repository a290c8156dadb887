-- What is told of a polygon whose area by its rings is not that by the even-odd rule.
use Rattle.std.specs.Prelude.{ℕ, List, slice_index_or}
use Rattle.layer_faces.specs.declared.uneven.Uneven.{Uneven}
use Rattle.cover_report.specs.declared.uneven.UnevenPolygon.{UnevenPolygon}

-- the number at a place of a list, and 0 behind its end
abbrev pub number_or_zero : List ℕ → ℕ → ℕ
number_or_zero numbers at = slice_index_or numbers at 0

-- by the numbers that polygons of a layer have: those of their features, and their own among the polygons of these
abbrev pub uneven_told : List ℕ → List ℕ → Uneven → UnevenPolygon
uneven_told owners numbers u = record {
  feature = number_or_zero owners u.polygon;
  polygon = number_or_zero numbers u.polygon;
  by_rings = u.by_rings;
  even_odd = u.even_odd;
}
