-- The edits of a vertex, in every ring at once, and which vertices are junctions.
use Rattle.std.specs.Prelude.{Bool, true, not, if◌then◌else◌, List, [], ◌∷◌, map}
use Rattle.std.specs.List.{flat_map, filter, list_all}
use Rattle.grid_geometry.specs.Common.{Position, position_eq, Segment, segment, segment_eq, Edge, edges}
use Rattle.ring_machine.specs.Ring.{segment_of, canonical, spots}
use Rattle.ring_machine.specs.Document.{Document}
use Rattle.ring_machine.specs.Parts.{in_rings, rings}

-- ---- in one ring

-- the ring with q in the place of p
abbrev pub put_ring : Position → Position → List Position → List Position
put_ring p q ring = canonical (map (λ r. if position_eq r p then q else r) ring)

-- the ring with q between a and b, wherever they are neighbours
abbrev pub ins_ring : Position → Position → Position → List Position → List Position
ins_ring a b q ring = canonical (flat_map begin_of (edges ring))
  where
    begin_of : Edge → List Position
    begin_of e = if segment_eq (segment_of e) (segment a b) then (e.0 ∷ q ∷ []) else (e.0 ∷ [])

-- the ring with p left out
abbrev pub del_ring : Position → List Position → List Position
del_ring p ring = canonical (filter (λ r. not (position_eq r p)) ring)

-- ---- in the document

-- q in the place of p in every ring
abbrev pub put : Document → Position → Position → Document
put d p q = in_rings (put_ring p q) d

-- q between a and b in every ring in which they are neighbours
abbrev pub ins : Document → Position → Position → Position → Document
ins d a b q = in_rings (ins_ring a b q) d

-- p left out of every ring
abbrev pub del : Document → Position → Document
del d p = in_rings (del_ring p) d

-- ---- junctions

-- the two neighbours of p at each of its places, as a segment
abbrev pub around : Document → Position → List Segment
around d p =
    map (λ spot. spot.1) (filter (λ spot. position_eq p spot.0) (flat_map spots (rings d)))

-- no two of the segments differ
abbrev pub all_equal : List Segment → Bool
all_equal [] = true
all_equal (s ∷ ss) = list_all (segment_eq s) ss

-- two places of p have different neighbours: borders meet there, and arcs are cut
-- (TopoJSON 1.0, 2.1.3)
abbrev pub is_junction : Document → Position → Bool
is_junction d p = not (all_equal (around d p))
