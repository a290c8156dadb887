-- Twice the area of polygons, as the answer to `area` is.
use Rattle.std.specs.Prelude.{ℤ, pos, ◌+ℤ◌, List}
use Rattle.std.specs.List.{fold}
use Rattle.grid_geometry.specs.Common.{Position}
use Rattle.ring_machine.specs.Common.{polygon_area}

abbrev pub polygons_area : List (List (List Position)) → ℤ
polygons_area polygons =
    fold (λ so_far polygon. so_far +ℤ polygon_area polygon) (pos 0) polygons
