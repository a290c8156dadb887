-- Worked examples: forms, and which polygons are reported.
use Rattle.kit_words.proofs.Common.{◌≡◌, ℕ, true, false, refl, pos, List, [], ◌∷◌, None}
use Rattle.grid_geometry.specs.Common.{Position, position, segment}
use Rattle.ring_machine.specs.Common.{Form, Polygon, MultiPolygon, Null, Feature, Leaf, Document}
use Rattle.topo_reader.specs.Common.{Polygons}
use Rattle.map_mending.specs.Common.{form_after, with_mended_polygons, polygons_of_parts, bounds_in, told_in, polygons_by_feature}

abbrev at : ℕ → ℕ → Position
at x y = position (pos x) (pos y)

-- ---- forms

one_polygon : form_after Polygon 1 ≡ Polygon
one_polygon = refl

no_polygon : form_after Polygon 0 ≡ MultiPolygon
no_polygon = refl

two_polygons : form_after Polygon 2 ≡ MultiPolygon
two_polygons = refl

one_of_several : form_after MultiPolygon 1 ≡ MultiPolygon
one_of_several = refl

nothing : form_after Null 0 ≡ Null
nothing = refl

-- ---- a feature of a square, and one of a triangle and of a walk there and back

abbrev square : List Position
square = at 0 0 ∷ at 2 0 ∷ at 2 2 ∷ at 0 2 ∷ []

abbrev triangle : List Position
triangle = at 4 0 ∷ at 6 0 ∷ at 4 2 ∷ []

abbrev there_and_back : List Position
there_and_back = at 7 0 ∷ at 9 0 ∷ []

abbrev feature : ℕ → Form → Polygons → Feature
feature n form polygons = record { number = n; id = None; form = form; properties = None; members = []; polygons = polygons }

abbrev map_of_two : Document
map_of_two = record {
  transform = None;
  layers = record {
    name = [];
    items = Leaf (feature 0 Polygon ((square ∷ []) ∷ [])) ∷ Leaf (feature 1 MultiPolygon ((triangle ∷ []) ∷ (there_and_back ∷ []) ∷ [])) ∷ [];
  } ∷ [];
  members = [];
}

-- the second polygon of the second feature was taken apart, into none
told_whole : told_in [] 0 (polygons_by_feature map_of_two) ((((square ∷ []) ∷ []) ∷ []) ∷ (((triangle ∷ []) ∷ []) ∷ [] ∷ []) ∷ [])
    ≡ record { feature = 1; polygon = 1; parts = 0 } ∷ []
told_whole = refl

-- what is left of its polygons
left_of_two : polygons_of_parts (((triangle ∷ []) ∷ []) ∷ [] ∷ []) ≡ (triangle ∷ []) ∷ []
left_of_two = refl

-- a Polygon of which nothing is left is a MultiPolygon of nothing
none_left : with_mended_polygons (feature 0 Polygon ((there_and_back ∷ []) ∷ [])) [] ≡ feature 0 MultiPolygon []
none_left = refl

-- ---- a side of the square bounds, and so does one of the triangle; the walk there and back does not

side_bounds : bounds_in map_of_two (segment (at 0 0) (at 2 0)) ≡ true
side_bounds = refl

other_bounds : bounds_in map_of_two (segment (at 4 0) (at 4 2)) ≡ true
other_bounds = refl

twice_bounds_nothing : bounds_in map_of_two (segment (at 7 0) (at 9 0)) ≡ false
twice_bounds_nothing = refl

diagonal_bounds_nothing : bounds_in map_of_two (segment (at 0 0) (at 2 2)) ≡ false
diagonal_bounds_nothing = refl
