-- Areas, as sums over sides.
use Rattle.std.specs.Prelude.{ℤ, pos, ◌+ℤ◌, Bool, List, [], ◌∷◌, if◌then◌else◌}
use Rattle.std.specs.List.{flat_map}
use Rattle.grid_geometry.specs.Common.{Edge, Segment, area_term}
use Rattle.layer_sides.specs.Common.{Side, Left, Right, bottom, top}

-- the ends of the segment, so that the side is on the left of the way from the first to the second
abbrev pub side_ends : Side → Edge
side_ends (s, Left) = (bottom s, top s)
side_ends (s, Right) = (top s, bottom s)

-- the summand of the shoelace sum of the segment, gone along with the side on the left
abbrev pub side_term : Side → ℤ
side_term a = area_term (side_ends a).0 (side_ends a).1

-- the sum of the terms of a list
abbrev pub total : {X : Type 0} → (X → ℤ) → List X → ℤ
total term [] = pos 0
total term (x ∷ xs) = term x +ℤ total term xs

-- the sides of the segments: of each its left one and then its right one
abbrev pub all_sides : List Segment → List Side
all_sides ss = flat_map (λ s. (s, Left) ∷ (s, Right) ∷ []) ss

-- twice the area of the places with a property: the sum over the sides that have it
abbrev pub area_at : (Side → Bool) → List Segment → ℤ
area_at has ss = total (λ a. if has a then side_term a else pos 0) (all_sides ss)
