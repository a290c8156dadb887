-- The rings of a feature in a document.
use Rattle.std.specs.Prelude.{ℕ, List, [], option_map, unwrap_or}
use Rattle.std.specs.List.{flat_map}
use Rattle.ring_machine.specs.Common.{DocumentOf, feature}

-- the polygons of feature n, and none where there is no such feature
abbrev pub feature_polygons : {R : Type 0} → DocumentOf R → ℕ → List (List R)
feature_polygons d n = unwrap_or (option_map (λ f. f.polygons) (feature d n)) []

-- the rings of feature n, polygon after polygon, and none where no feature has the number
abbrev pub rings_under : {R : Type 0} → DocumentOf R → ℕ → List R
rings_under d n = flat_map (λ polygon. polygon) (feature_polygons d n)
