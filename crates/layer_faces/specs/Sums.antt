-- What the areas of a layer's polygons add up to.
use Rattle.std.specs.Prelude.{◌≡◌, ℕ, ℤ, pos, ◌+ℤ◌, ◌*ℤ◌, ◌-◌, neg_ℤ, Bool, true, false, List, [], ◌∷◌, length, if◌then◌else◌}
use Rattle.grid_geometry.specs.Common.{Segment}
use Rattle.layer_sides.specs.Common.{Polygon, Side, holders, holds}
use Rattle.layer_faces.specs.declared.kind.Kind.{Kind}
use Rattle.layer_faces.specs.declared.kind.Kind.TheVariants.{Overlap, Twice, Gap, Lake, Land, Outside}
use Rattle.layer_faces.specs.declared.sums.Sums.{Sums}
use Rattle.layer_faces.specs.Areas.{all_sides, area_at, side_term, total}
use Rattle.layer_faces.specs.Faces.{FaceOf, is_outside}

-- there is one or more
abbrev pub is_any : List ℕ → Bool
is_any [] = false
is_any (n ∷ ns) = true

-- some polygon holds the side
abbrev pub is_held : List Polygon → Side → Bool
is_held polygons a = is_any (holders polygons a)

-- it is a face that no polygon holds, and not the outside
abbrev pub is_gap : Kind → Bool
is_gap Gap = true
is_gap Lake = true
is_gap Overlap = false
is_gap Twice = false
is_gap Land = false
is_gap Outside = false

-- twice the area of the faces of such a kind
abbrev pub area_of_kind : (Kind → Bool) → List FaceOf → ℤ
area_of_kind is faces = total (λ f. if is f.kind then f.area else pos 0) faces

-- `polygons`: of each polygon of the layer the area by the even-odd rule; `over`: what is held more
-- than once, as often as it is held too often; `covered`: what is held; `gaps`: what is not held and
-- not outside; `within`: what is not outside
pub record AreSums (layer : List Polygon) (borders : List Segment) (faces : List FaceOf) (s : Sums)
    : Type 0 where
  pub polygons : s.polygons ≡ total (λ p. area_at (holds p) borders) layer
  pub over : s.over
      ≡ total (λ a. pos (length (holders layer a) - 1) *ℤ side_term a) (all_sides borders)
  pub covered : s.covered ≡ area_at (is_held layer) borders
  pub gaps : s.gaps ≡ area_of_kind is_gap faces
  pub within : s.within ≡ neg_ℤ (area_of_kind is_outside faces)

-- the areas of the polygons are what is covered and what is held too often; what is within is what
-- is covered and the gaps
pub record AddUp (s : Sums) : Type 0 where
  pub polygons : s.polygons ≡ s.covered +ℤ s.over
  pub within : s.within ≡ s.covered +ℤ s.gaps
