-- The rings of features in one list, and the features of such a list again.
use Rattle.std.specs.Prelude.{ℕ, ◌≡◌, List, map, length, Vec}
use Rattle.std.specs.List.{flat_map, sum, sum_by}
use Rattle.grid_geometry.specs.Common.{Position}
use Rattle.ring_parts.specs.Common.{polygons_seen}

-- all that stands in lists
abbrev pub in_lists : {R : Type 0} → List (List R) → List R
in_lists polygons = flat_map (λ polygon. polygon) polygons

-- the rings of all features, one after the other
abbrev pub rings_of_features : {R : Type 0} → List (List (List R)) → List R
rings_of_features features = flat_map in_lists features

-- how many rings each polygon of each feature has
abbrev pub shape_of : {R : Type 0} → List (List (List R)) → List (List ℕ)
shape_of features = map (map length) features

-- how many rings features of this shape have
abbrev pub ring_count : List (List ℕ) → ℕ
ring_count shape = sum_by sum shape

-- these are the rings of the features in order, and this is their shape
pub record IsFlat {R : Type 0} (features : List (List (List R))) (shape : List (List ℕ)) (rings : List R) : Type 0 where
  pub all : rings_of_features features ≡ rings
  pub alike : shape_of features ≡ shape

module _ {A : Type 0} where
  -- what stands in lists, as lists
  abbrev pub lists_seen : {R : Type 0} → List (Vec R A) → List (List R)
  lists_seen lists = map (λ list. list.items) lists

  -- the numbers of the rings of features
  abbrev pub numbers_seen : List (Vec (Vec ℕ A) A) → List (List (List ℕ))
  numbers_seen features = map (λ polygons. lists_seen polygons.items) features

  -- the rings of features
  abbrev pub features_seen : List (Vec (Vec (Vec Position A) A) A) → List (List (List (List Position)))
  features_seen features = map (λ polygons. polygons_seen polygons.items) features
