-- The texts of rings (RFC 7946, 3.1.6).
use Rattle.std.specs.Prelude.{ℤ, pos, int_lt, Bool, true, false, not, ◌&&◌, if◌then◌else◌, List, [], ◌∷◌, ◌++◌, map, reverse}
use Rattle.grid_geometry.specs.Common.{Position, signed_area}
use Rattle.ring_machine.specs.Common.{Text, Form, MultiPolygon}
use Rattle.map_text.specs.Common.{list_text}
use Rattle.grid_decimals.specs.Common.{is_flipped, x_text, y_text}
use Rattle.geo_features.specs.Style.{Style}

-- a position (3.1.1)
abbrev pub position_text : Style → Position → Text
position_text s p = list_text (x_text s.grid s.decimals p.x ∷ y_text s.grid s.decimals p.y ∷ [])

-- a ring that turns the wrong way: an outer ring to the right, or a hole to the left. Whether the map is turned over,
-- whether it is an outer ring, and twice its area on the grid
abbrev pub is_wrong_way : Bool → Bool → ℤ → Bool
is_wrong_way false true area = int_lt area (pos 0)
is_wrong_way false false area = int_lt (pos 0) area
is_wrong_way true true area = int_lt (pos 0) area
is_wrong_way true false area = int_lt area (pos 0)

-- from the same position the other way round
abbrev pub turned : List Position → List Position
turned [] = []
turned (p ∷ ps) = p ∷ reverse ps

-- a ring is written the other way round
abbrev pub is_turned : Style → Bool → List Position → Bool
is_turned s is_outer ring = not s.keeps_winding && is_wrong_way (is_flipped s.grid) is_outer (signed_area ring)

-- in the direction that is written: the right-hand rule's, or the one that it has
abbrev pub directed : Style → Bool → List Position → List Position
directed s is_outer ring =
    if is_turned s is_outer ring then turned ring else ring

-- with its first position again at its end
abbrev pub closed : List Position → List Position
closed [] = []
closed (p ∷ ps) = p ∷ ps ++ p ∷ []

abbrev pub ring_text : Style → Bool → List Position → Text
ring_text s is_outer ring = list_text (map (position_text s) (closed (directed s is_outer ring)))

-- a polygon: its outer ring, and its holes
abbrev pub polygon_text : Style → List (List Position) → Text
polygon_text s [] = list_text []
polygon_text s (outer ∷ holes) = list_text (ring_text s true outer ∷ map (ring_text s false) holes)

-- the coordinates of a Polygon, which has one, or of a MultiPolygon (3.1.7)
abbrev pub shape_text : Style → Form → List (List (List Position)) → Text
shape_text s MultiPolygon polygons = list_text (map (polygon_text s) polygons)
shape_text s _ [] = list_text []
shape_text s _ (polygon ∷ others) = polygon_text s polygon
