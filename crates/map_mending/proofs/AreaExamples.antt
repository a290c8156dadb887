-- Worked examples: how areas change, and what is swept over.
use Rattle.kit_words.proofs.Common.{◌≡◌, ℕ, pos, refl, List, [], ◌∷◌}
use Rattle.grid_geometry.specs.Common.{Position, position, Segment, segment, orientation}
use Rattle.ring_machine.specs.Common.{Feature, area_of}
use Rattle.segment_paths.specs.Common.{PathOfSegment}
use Rattle.topo_reader.specs.Common.{Polygons}
use Rattle.map_mending.specs.Common.{area_in, change_of, changes_from, swept_along}

abbrev at : ℕ → ℕ → Position
at x y = position (pos x) (pos y)

abbrev seg : ℕ → ℕ → ℕ → ℕ → Segment
seg a b c d = segment (at a b) (at c d)

-- the area of its polygons is the area of a feature
pub area_of_feature : (f : Feature) → area_of f ≡ area_in f.polygons
area_of_feature f = refl

-- a square of side 10 without one of side 3, and a triangle: 2 * (100 - 9 + 12)
abbrev pieces : Polygons
pieces =
    ((at 0 0 ∷ at 10 0 ∷ at 10 10 ∷ at 0 10 ∷ []) ∷ (at 3 3 ∷ at 3 6 ∷ at 6 6 ∷ at 6 3 ∷ []) ∷ [])
    ∷ ((at 20 0 ∷ at 20 4 ∷ at 26 0 ∷ []) ∷ [])
    ∷ []

of_pieces : area_in pieces ≡ pos 206
of_pieces = refl

-- walks of one and of two positions have no area
of_short_walks : area_in (((at 2 2 ∷ []) ∷ []) ∷ ((at 0 0 ∷ at 5 0 ∷ []) ∷ []) ∷ []) ≡ pos 0
of_short_walks = refl

-- 0 10 to 20 7, along 5 9 and 13 8: the triangles 0 10, 5 9, 20 7 and 5 9, 13 8, 20 7
over_two : swept_along (seg 0 10 20 7) (at 5 9 ∷ at 13 8 ∷ []) ≡ 6
unfolding orientation
over_two = refl

-- and by no position: nothing
over_none : swept_along (seg 0 10 20 7) [] ≡ 0
unfolding orientation
over_none = refl

-- two neighbours that overlap, their borders led along common positions
abbrev paths : List PathOfSegment
paths =
    (seg 0 10 20 7, at 5 9 ∷ at 13 8 ∷ [])
    ∷ (seg 5 8 5 20, at 5 9 ∷ [])
    ∷ (seg 5 8 30 8, at 13 8 ∷ [])
    ∷ []

abbrev first : Polygons
first = ((at 0 0 ∷ at 20 0 ∷ at 20 7 ∷ at 0 10 ∷ []) ∷ []) ∷ []

abbrev second : Polygons
second = ((at 5 8 ∷ at 30 8 ∷ at 30 20 ∷ at 5 20 ∷ []) ∷ []) ∷ []

-- the second sweeps over nothing, and its area stays
crossing : changes_from paths 0 (first ∷ second ∷ [])
    ((((at 0 0 ∷ at 20 0 ∷ at 20 7 ∷ at 13 8 ∷ at 5 9 ∷ at 0 10 ∷ []) ∷ []) ∷ [])
    ∷ (((at 5 8 ∷ at 13 8 ∷ at 30 8 ∷ at 30 20 ∷ at 5 20 ∷ at 5 9 ∷ []) ∷ []) ∷ []) ∷ [])
    ≡ record { feature = 0; before = pos 340; after = pos 336; swept = 6 } ∷ []
unfolding orientation
crossing = refl

-- a bow tie, whose loops have one area: the shoelace sum takes one from the other
bow_tie : change_of [] 4
    (((at 0 0 ∷ at 10 10 ∷ at 10 0 ∷ at 0 10 ∷ []) ∷ []) ∷ [])
    (((at 5 5 ∷ at 10 0 ∷ at 10 10 ∷ []) ∷ []) ∷ ((at 0 0 ∷ at 5 5 ∷ at 0 10 ∷ []) ∷ []) ∷ [])
    ≡ record { feature = 4; before = pos 0; after = pos 100; swept = 0 }
unfolding orientation
bow_tie = refl
