-- Sums over the faces that the code holds.
use Rattle.std.specs.Prelude.{◌≡◌, ℕ, ℤ, pos, ◌+ℤ◌, ◌*ℤ◌, ◌-◌, ◌==◌, neg_ℤ, not, ◌&&◌, Bool, List, [], ◌∷◌, ◌++◌, suc, length, unsigned_abs}
use Rattle.std.specs.Prelude.{if◌then◌else◌}
use Rattle.std.specs.List.{count_by, sum_by}
use Rattle.std.specs.Ordering.{int_eq}
use Rattle.ring_machine.specs.Common.{polygon_area}
use Rattle.layer_sides.specs.Common.{Polygon}
use Rattle.layer_faces.specs.declared.face.Face.{Face}
use Rattle.layer_faces.specs.declared.kind.Kind.{Kind}
use Rattle.layer_faces.specs.declared.sums.Sums.{Sums}
use Rattle.layer_faces.specs.declared.uneven.Uneven.{Uneven}
use Rattle.layer_faces.specs.Areas.{total}
use Rattle.layer_faces.specs.Faces.{is_outside}
use Rattle.layer_faces.specs.Sums.{is_gap}

-- how large the areas of the faces are together, whatever their signs
abbrev pub reach : {A : Type 0} → List (Face A) → ℕ
reach faces = sum_by (λ f. unsigned_abs f.twice_area) faces

-- the area of the faces, each as often as polygon n is among its holders
abbrev pub area_of_holder : {A : Type 0} → List (Face A) → ℕ → ℤ
area_of_holder faces n = total (λ f. pos (count_by (λ m. m == n) f.holders.items) *ℤ f.twice_area) faces

-- the area of the faces, each as often as it has holders
abbrev pub area_of_holders : {A : Type 0} → List (Face A) → ℤ
area_of_holders faces = total (λ f. pos (length f.holders.items) *ℤ f.twice_area) faces

-- the area of the faces that are of such a kind
abbrev pub area_of_kinds : {A : Type 0} → (Kind → Bool) → List (Face A) → ℤ
area_of_kinds is faces = total (λ f. if is f.kind then f.twice_area else pos 0) faces

-- it is held by a polygon
abbrev pub is_land : Kind → Bool
is_land kind = not (is_gap kind) && not (is_outside kind)

-- the sums over these faces
pub record AreFaceSums {A : Type 0} (faces : List (Face A)) (s : Sums) : Type 0 where
  pub polygons : s.polygons ≡ s.covered +ℤ s.over
  pub over : s.over ≡ total (λ f. pos (length f.holders.items - 1) *ℤ f.twice_area) faces
  pub covered : s.covered ≡ area_of_kinds is_land faces
  pub gaps : s.gaps ≡ area_of_kinds is_gap faces
  pub within : s.within ≡ neg_ℤ (area_of_kinds is_outside faces)

-- a polygon is told where its two areas differ
abbrev pub told_if : Uneven → List Uneven
told_if u = if int_eq u.by_rings u.even_odd then [] else (u ∷ [])

-- what is told of polygon n, whose area is z by the even-odd rule
abbrev pub told_beside : ℕ → Polygon → ℤ → List Uneven
told_beside n p z = told_if (record { polygon = n; by_rings = polygon_area p; even_odd = z })

-- what is told of polygons with these areas, of which the first has number n
abbrev pub told_beside_all : ℕ → List Polygon → List ℤ → List Uneven
told_beside_all n (p ∷ ps) (z ∷ zs) = told_beside n p z ++ told_beside_all (suc n) ps zs
told_beside_all n _ _ = []
