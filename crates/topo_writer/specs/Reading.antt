-- The rings of a map, as they are read.
use Rattle.std.specs.Prelude.{ℕ, List, [], unwrap_or, option_map, Contains}
use Rattle.std.specs.List.{flat_map, AllByRecursion}
use Rattle.grid_geometry.specs.Common.{Position}
use Rattle.ring_machine.specs.Common.{Document, feature, rings}
use Rattle.map_frame.specs.Common.{element, frame_ring}

-- the positions of the ring with this number of the polygon with this number of a feature; none
-- where there is no such ring
abbrev pub positions_at : Document → ℕ → ℕ → ℕ → List Position
positions_at d n polygon ring = unwrap_or (frame_ring d n polygon ring) []

-- the rings of the polygon with this number of a feature; none where there is no such polygon
abbrev pub rings_at : Document → ℕ → ℕ → List (List Position)
rings_at d n polygon = unwrap_or (element (option_map (λ f. f.polygons) (feature d n)) polygon) []

-- the polygons of a feature; none where there is no such feature
abbrev pub polygons_at : Document → ℕ → List (List (List Position))
polygons_at d n = unwrap_or (option_map (λ f. f.polygons) (feature d n)) []

-- the rings of a feature, polygon after polygon
abbrev pub all_rings_at : Document → ℕ → List (List Position)
all_rings_at d n = flat_map (λ polygon. polygon) (polygons_at d n)

-- each of these is a ring of the document
abbrev pub AreRingsOf : Document → List (List Position) → Type 0
AreRingsOf d some = AllByRecursion (Contains (rings d)) some
