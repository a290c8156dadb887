-- The polygons whose area by their rings is not that by the even-odd rule.
use Rattle.std.specs.Prelude.{ℕ, suc, List, [], ◌∷◌, ◌++◌, if◌then◌else◌}
use Rattle.std.specs.Ordering.{int_eq}
use Rattle.grid_geometry.specs.Common.{Segment}
use Rattle.ring_machine.specs.Common.{polygon_area}
use Rattle.layer_sides.specs.Common.{Polygon, holds}
use Rattle.layer_faces.specs.declared.uneven.Uneven.{Uneven}
use Rattle.layer_faces.specs.Areas.{area_at}

-- what is told of polygon n: nothing where both areas are the same
abbrev pub uneven_of : List Segment → ℕ → Polygon → List Uneven
uneven_of borders n p =
    if int_eq (polygon_area p) (area_at (holds p) borders) then []
    else (record { polygon = n; by_rings = polygon_area p; even_odd = area_at (holds p) borders } ∷ [])

-- what is told of polygons, of which the first has number n
abbrev pub uneven_from : List Segment → ℕ → List Polygon → List Uneven
uneven_from borders n [] = []
uneven_from borders n (p ∷ ps) = uneven_of borders n p ++ uneven_from borders (suc n) ps
