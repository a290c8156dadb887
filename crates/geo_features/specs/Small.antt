-- Rings that the code holds are no longer than a map may have positions.
use Rattle.std.specs.Prelude.{Bool, nat_le, List, length, Vec}
use Rattle.std.specs.List.{list_all}
use Rattle.grid_geometry.specs.Common.{Position}

abbrev pub is_small : {A : Type 0} → Vec Position A → Bool
is_small ring = nat_le (length ring.items) 4000000

-- those of a polygon, of a feature, and of all features
abbrev pub are_small : {A : Type 0} → List (Vec Position A) → Bool
are_small rings = list_all is_small rings

abbrev pub all_small : {A : Type 0} → List (Vec (Vec Position A) A) → Bool
all_small polygons = list_all (λ polygon. are_small polygon.items) polygons

abbrev pub each_small : {A : Type 0} → List (Vec (Vec (Vec Position A) A) A) → Bool
each_small features = list_all (λ polygons. all_small polygons.items) features
