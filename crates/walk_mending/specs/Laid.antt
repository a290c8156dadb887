-- Walks, led along the paths of their segments.
use Rattle.std.specs.Prelude.{List, [], ◌∷◌, reverse, Contains, if◌then◌else◌}
use Rattle.std.specs.List.{flat_map}
use Rattle.grid_geometry.specs.Common.{Position, position_lt, Segment, Edge, edges}
use Rattle.ring_machine.specs.Common.{segment_of, segments}
use Rattle.segment_paths.specs.Common.{PathOfSegment, inner_of, links_of}

-- from the edge's begin up to its end, which is left out, along the path of its segment
abbrev pub edge_along : List PathOfSegment → Edge → List Position
edge_along paths e =
    e.0 ∷ (if position_lt e.0 e.1
    then inner_of paths (segment_of e) else reverse (inner_of paths (segment_of e)))

-- the walk, led along the paths
abbrev pub laid : List PathOfSegment → List Position → List Position
laid paths walk = flat_map (edge_along paths) (edges walk)

-- the positions stand in the other list in their order, others between them
pub data KeepsInOrder : List Position → List Position → Type 0 where
  ends : KeepsInOrder [] []
  kept : {p : Position} {ps qs : List Position}
      → KeepsInOrder ps qs → KeepsInOrder (p ∷ ps) (p ∷ qs)
  between : {q : Position} {ps qs : List Position}
      → KeepsInOrder ps qs → KeepsInOrder ps (q ∷ qs)

-- each link of each segment of the walk is a segment of the other one
abbrev pub GoesAlong : List PathOfSegment → List Position → List Position → Type 0
GoesAlong paths walk found =
    (s link : Segment) → Contains (segments walk) s → Contains (links_of paths s) link
    → Contains (segments found) link
