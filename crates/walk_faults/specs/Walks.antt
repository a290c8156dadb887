-- The walks of a map: closed lists of positions of any length, which stand in the place of its rings.
use Rattle.std.specs.Prelude.{ℕ, suc, List, [], ◌∷◌, ◌++◌}
use Rattle.grid_geometry.specs.Common.{Position}
use Rattle.topo_outline.specs.declared.fault.RingAt.{RingAt}

-- where a walk stands in the map, and the walk
abbrev pub Placed : Type 0
Placed = RingAt × List Position

-- what f gives for each element with its place, in order; the first element has the place k
abbrev pub flat_map_at : {X Y : Type 0} → (ℕ → X → List Y) → ℕ → List X → List Y
flat_map_at f k [] = []
flat_map_at f k (x ∷ xs) = f k x ++ flat_map_at f (suc k) xs

-- the walk with its place
abbrev pub placed : ℕ → ℕ → ℕ → List Position → List Placed
placed feature polygon ring walk =
    (record { feature = feature; polygon = polygon; ring = ring }, walk) ∷ []

-- the walks of a polygon, in order
abbrev pub walks_in_polygon : ℕ → ℕ → List (List Position) → List Placed
walks_in_polygon feature polygon rings = flat_map_at (placed feature polygon) 0 rings

-- the walks of a feature, in order
abbrev pub walks_in_feature : ℕ → List (List (List Position)) → List Placed
walks_in_feature feature polygons = flat_map_at (walks_in_polygon feature) 0 polygons

-- the walks of a map, which are given by feature, polygon and ring, in order
abbrev pub walks_of : List (List (List (List Position))) → List Placed
walks_of features = flat_map_at walks_in_feature 0 features
