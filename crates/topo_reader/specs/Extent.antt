-- The extent of positions.
use Rattle.std.specs.Prelude.{List, [], ◌∷◌, map, Option, Some, None}
use Rattle.std.specs.List.{fold}
use Rattle.std.specs.Int.{int_min, int_max}
use Rattle.grid_geometry.specs.Common.{Position, Box}

-- the least box of all positions: from their least x and y to their greatest (TopoJSON 1.0, 3)
abbrev pub extent_of : List Position → Option Box
extent_of [] = None
extent_of (p ∷ ps) = Some (record {
  x0 = fold int_min p.x (map (λ q. q.x) ps);
  y0 = fold int_min p.y (map (λ q. q.y) ps);
  x1 = fold int_max p.x (map (λ q. q.x) ps);
  y1 = fold int_max p.y (map (λ q. q.y) ps);
})

-- ---- as the code comes to it

-- the least box of a box and a position
abbrev pub box_with : Option Box → Position → Box
box_with None p = record { x0 = p.x; y0 = p.y; x1 = p.x; y1 = p.y }
box_with (Some b) p = record {
  x0 = int_min b.x0 p.x;
  y0 = int_min b.y0 p.y;
  x1 = int_max b.x1 p.x;
  y1 = int_max b.y1 p.y;
}

abbrev pub widened : Option Box → List Position → Option Box
widened rect ps = fold (λ r p. Some (box_with r p)) rect ps
