-- Which features hold the sides of a face, or stand beside it.
use Rattle.std.specs.Prelude.{ℕ, ◌↔◌, List, [], ◌∷◌, map, slice_index, Contains}
use Rattle.std.specs.List.{flat_map}
use Rattle.std.specs.List.Sorted.{IsStrictlySortedBy}
use Rattle.std.specs.Ordering.{nat_cmp}
use Rattle.layer_sides.specs.Common.{Polygon, Side, Left, Right, holders}

-- the other side of the segment
abbrev pub opposite : Side → Side
opposite (s, Left) = (s, Right)
opposite (s, Right) = (s, Left)

-- the polygons that hold the other side of the segment of one of these sides
abbrev pub beside : List Polygon → List Side → List ℕ
beside polygons sides = flat_map (λ a. holders polygons (opposite a)) sides

-- the polygons that are reported for a face: those that hold it or, if none does, those beside it
abbrev pub told_by : List Polygon → List ℕ → List Side → List ℕ
told_by polygons [] sides = beside polygons sides
told_by polygons (n ∷ ns) sides = n ∷ ns

-- of polygons by their numbers the numbers of their features
abbrev pub features_of : List ℕ → List ℕ → List ℕ
features_of owners ns = map (slice_index owners) ns

-- the second list has the numbers of the first one, ascending, each once
pub record IsOnce (ns once : List ℕ) : Type 0 where
  pub ascending : IsStrictlySortedBy nat_cmp once
  pub same : (n : ℕ) → Contains once n ↔ Contains ns n
