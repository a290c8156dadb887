-- The numbers of rings, by polygon.
use Rattle.std.specs.Prelude.{ℕ, List, map, Vec}

-- the numbers of a polygon's rings
abbrev pub polygon_numbers : {A : Type 0} → Vec ℕ A → List ℕ
polygon_numbers p = p.items

-- the numbers of the rings of a feature's polygons
abbrev pub feature_numbers : {A : Type 0} → Vec (Vec ℕ A) A → List (List ℕ)
feature_numbers f = map polygon_numbers f.items
