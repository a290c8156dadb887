-- Definitions of documents, their parts and their edits, worked out.
use Rattle.kit_words.proofs.Common.{refl, ap, ◌≡◌, nat_le, true, false, List, [], ◌∷◌, map, Some, None}
use Rattle.grid_geometry.specs.Common.{Position, segment, orientation, is_on, are_split, cross, is_within, conflict}
use Rattle.ring_machine.specs.Common.{Document, Open, Close, size, is_geometry, around, is_junction, holds_other}
use Rattle.ring_machine.specs.Common.{crosses_on_way, ring_at, Path, path_of, first_part, second_part, goes_first}
use Rattle.ring_machine.specs.Common.{first_polygon, second_polygon, counts_of, is_small}
use Rattle.ring_machine.proofs.Worked.{at, under, M, S, H, Q, T, bare, plain, square_a, square_b}
use Rattle.ring_machine.proofs.Worked.{both_squares, corner_hole, square_hole}

-- ---- parts

-- a position of two rings counts twice
sizes : map size (M ∷ S ∷ Q ∷ []) ≡ (8 ∷ 14 ∷ 3 ∷ [])
sizes = refl

-- the positions of holes count too
size_with_holes : size H ≡ 13
size_with_holes = refl

-- a document of 4,000,000 positions is not too large, and one of 4,000,001 is
greatest_size : (d : Document) → size d ≡ 4000000 → is_small d ≡ true
greatest_size d e = ap (λ n. nat_le n 4000000) e

one_too_many : (d : Document) → size d ≡ 4000001 → is_small d ≡ false
one_too_many d e = ap (λ n. nat_le n 4000000) e

-- a position or a segment of two rings counts once
counts : map counts_of (M ∷ S ∷ Q ∷ [])
    ≡ (record { feature_count = 2; vertex_count = 6; segment_count = 7 } ∷
    record { feature_count = 3; vertex_count = 6; segment_count = 7 } ∷
    record { feature_count = 2; vertex_count = 3; segment_count = 3 } ∷ [])
counts = refl

-- polygons and rings are counted from 0
second_hole : ring_at H 0 0 2 ≡ Some square_hole
second_hole = refl

no_third_hole : ring_at H 0 0 3 ≡ None
no_third_hole = refl

-- ---- trees

-- a leaf; a collection with one in it; not closed; closed twice; two leaves; nothing
geometries : map is_geometry
    ((plain 0 [] ∷ []) ∷
    (Open bare ∷ Open bare ∷ Close ∷ plain 0 [] ∷ Close ∷ []) ∷
    (Open bare ∷ plain 0 [] ∷ []) ∷
    (Open bare ∷ Close ∷ Close ∷ []) ∷
    (plain 0 [] ∷ plain 1 [] ∷ []) ∷
    [] ∷ [])
    ≡ (true ∷ true ∷ false ∷ false ∷ false ∷ false ∷ [])
geometries = refl

-- ---- junctions

junctions : map (is_junction M) (at 10 10 ∷ at 0 0 ∷ at 20 0 ∷ at 10 0 ∷ [])
    ≡ (true ∷ false ∷ false ∷ true ∷ [])
junctions = refl

-- a position of two rings with the same neighbours in both is none
same_neighbours : map (is_junction S) (at 0 0 ∷ at 20 0 ∷ at 10 0 ∷ [])
    ≡ (false ∷ false ∷ true ∷ [])
same_neighbours = refl

-- the neighbours at each place, the lesser first
neighbours_around : (around M (at 0 0) ∷ around M (at 10 10) ∷ around M (at 5 5) ∷ [])
    ≡ ((segment (at 0 10) (at 10 0) ∷ []) ∷
    (segment (at 0 10) (at 10 0) ∷ segment (at 10 0) (at 20 10) ∷ []) ∷ [] ∷ [])
neighbours_around = refl

-- ---- sweeping

-- a position of another ring is held; corners that are named are not; a position on a side is
held_by_a_triangle : (holds_other T (at 0 0 ∷ at 30 0 ∷ at 0 30 ∷ []) (at 0 0) (at 30 0) (at 0 30) ∷
    holds_other M (at 0 0 ∷ at 10 0 ∷ at 0 10 ∷ []) (at 0 0) (at 10 0) (at 0 10) ∷
    holds_other M (at 0 0 ∷ at 20 0 ∷ []) (at 0 0) (at 20 0) (under 5 5) ∷ [])
    ≡ (true ∷ false ∷ true ∷ [])
unfolding orientation
held_by_a_triangle = refl

-- over the common side; onto it; inside the square; outside it; along a side that ends at p, within
-- it; along that side and past its end
ways : map (crosses_on_way M (at 0 0))
    (at 15 5 ∷ at 10 5 ∷ at 5 5 ∷ under 5 5 ∷ at 5 0 ∷ at 15 0 ∷ [])
    ≡ (true ∷ true ∷ false ∷ false ∷ false ∷ true ∷ [])
unfolding conflict cross is_within is_on are_split orientation
ways = refl

-- ---- a cut

abbrev through : Path
through = path_of (at 0 0 ∷ at 5 2 ∷ at 10 10 ∷ [])

path_of_three : through ≡ record { first = at 0 0; inner = at 5 2 ∷ []; last = at 10 10 }
path_of_three = refl

path_of_two : path_of (at 0 0 ∷ at 10 10 ∷ [])
    ≡ record { first = at 0 0; inner = []; last = at 10 10 }
path_of_two = refl

both_parts : (first_part square_a through ∷ second_part square_a through ∷ [])
    ≡ ((at 0 0 ∷ at 10 0 ∷ at 10 10 ∷ at 5 2 ∷ []) ∷
    (at 10 10 ∷ at 0 10 ∷ at 0 0 ∷ at 5 2 ∷ []) ∷ [])
both_parts = refl

-- all its positions are of the part; the least one that is none is inside; it is outside
holes : map (goes_first square_a)
    ((at 0 0 ∷ at 10 0 ∷ at 10 10 ∷ []) ∷ corner_hole ∷ square_hole ∷ [])
    ≡ (true ∷ true ∷ false ∷ [])
unfolding orientation
holes = refl

-- the least position off the part is inside it, though the least of all lies on its corner and
-- another is outside: the hole goes first
least_one_decides : goes_first square_a (at 0 0 ∷ at 15 5 ∷ at 4 2 ∷ []) ≡ true
unfolding orientation
least_one_decides = refl

abbrev common_side : Path
common_side = path_of (at 10 0 ∷ at 10 10 ∷ [])

abbrev with_holes : List (List Position)
with_holes = both_squares ∷ corner_hole ∷ square_hole ∷ []

-- each hole finds its part
parts_with_holes :
    (first_polygon common_side with_holes ∷ second_polygon common_side with_holes ∷ [])
    ≡ ((square_b ∷ square_hole ∷ []) ∷ (square_a ∷ corner_hole ∷ []) ∷ [])
unfolding orientation
parts_with_holes = refl
