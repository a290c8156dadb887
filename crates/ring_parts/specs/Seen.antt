-- What the code holds, seen as the machine's paths and polygons.
use Rattle.std.specs.Prelude.{ℕ, List, [], ◌∷◌, Vec, map, length}
use Rattle.grid_geometry.specs.Common.{Position}
use Rattle.ring_machine.specs.Cut as machine
use Rattle.ring_parts.specs.declared.paths.Path.{Path}

-- a path
abbrev pub path_seen : Path → machine.Path
path_seen path = record { first = path.first; inner = path.inner.now; last = path.last }

-- the rings of a polygon
abbrev pub rings_seen : {A : Type 0} → List (Vec Position A) → List (List Position)
rings_seen polygon = map (λ ring. ring.items) polygon

-- the polygons of a feature
abbrev pub polygons_seen : {A : Type 0}
    → List (Vec (Vec Position A) A) → List (List (List Position))
polygons_seen polygons = map (λ polygon. rings_seen polygon.items) polygons

-- how many positions the outer ring has
abbrev pub outer_length : List (List Position) → ℕ
outer_length [] = 0
outer_length (outer ∷ holes) = length outer
