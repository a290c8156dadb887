-- What is asked of a document without a change.
use Rattle.std.specs.Prelude.{ℕ, ℤ, pos, ◌+ℤ◌, ◌-ℤ◌, unsigned_abs, Bool, false, not, ◌&&◌, ◌==◌}
use Rattle.std.specs.Prelude.{nat_le, if◌then◌else◌, List, [], ◌∷◌, length}
use Rattle.std.specs.List.{list_any, filter, flat_map, fold}
use Rattle.grid_geometry.specs.Common.{Position, position_eq, position_lt, Segment, segment_eq, is_on, signed_area}
use Rattle.grid_geometry.specs.Common.{is_inside, xor}
use Rattle.ring_machine.specs.Ring.{segments}
use Rattle.ring_machine.specs.Document.{Document, Feature}
use Rattle.ring_machine.specs.Parts.{features, rings_of, positions, all_segments}

-- ---- areas

-- twice the area of a ring, whichever way it turns
abbrev pub absolute_area : List Position → ℤ
absolute_area ring = pos (unsigned_abs (signed_area ring))

-- twice the area of a polygon: that of the outer ring less those of the holes (RFC 7946, 3.1.6)
abbrev pub polygon_area : List (List Position) → ℤ
polygon_area [] = pos 0
polygon_area (outer ∷ holes) =
    fold (λ so_far hole. so_far -ℤ absolute_area hole) (absolute_area outer) holes

-- twice the area of a feature: the sum over its polygons
abbrev pub area_of : Feature → ℤ
area_of f = fold (λ so_far polygon. so_far +ℤ polygon_area polygon) (pos 0) f.polygons

-- ---- numbers of features

-- the ascending numbers with n in its place
abbrev pub add_number : ℕ → List ℕ → List ℕ
add_number n [] = n ∷ []
add_number n (m ∷ ms) = if nat_le n m then (n ∷ m ∷ ms) else (m ∷ add_number n ms)

-- the numbers of the features, ascending
abbrev pub numbers : List Feature → List ℕ
numbers fs = fold (λ ns f. add_number f.number ns) [] fs

-- every segment of the feature's rings, as often as it stands there
abbrev pub segments_of : Feature → List Segment
segments_of f = flat_map segments (rings_of f)

-- ---- at a position

-- p lies on a segment of the feature
abbrev pub is_on_border : Position → Feature → Bool
is_on_border p f = list_any (λ s. is_on p s.lo s.hi) (segments_of f)

-- an odd number of the polygon's rings, outer ring and holes together, hold p
abbrev pub is_in_polygon : Position → List (List Position) → Bool
is_in_polygon p polygon = fold (λ odd ring. xor odd (is_inside p ring)) false polygon

-- p is off the borders of the feature and in one of its polygons
abbrev pub is_in_feature : Position → Feature → Bool
is_in_feature p f = not (is_on_border p f) && list_any (is_in_polygon p) f.polygons

-- the features on whose borders p lies
abbrev pub border_at : Document → Position → List ℕ
border_at d p = numbers (filter (is_on_border p) (features d))

-- the features that hold p, off their borders
abbrev pub inside_at : Document → Position → List ℕ
inside_at d p = numbers (filter (is_in_feature p) (features d))

-- ---- neighbours

-- the features have a segment in common
abbrev pub have_common : Feature → Feature → Bool
have_common f g = list_any (λ s. list_any (segment_eq s) (segments_of g)) (segments_of f)

-- the other features with a segment in common with f
abbrev pub neighbours_of : Document → Feature → List ℕ
neighbours_of d f =
    numbers (filter (λ g. not (g.number == f.number) && have_common f g) (features d))

-- ---- counts

-- the ascending positions with p in its place, each once
abbrev pub add_position : List Position → Position → List Position
add_position [] p = p ∷ []
add_position (q ∷ qs) p =
    if position_lt p q
    then (p ∷ q ∷ qs)
    else (if position_eq p q then (q ∷ qs) else (q ∷ add_position qs p))

-- the vertices of the map, ascending, each once
abbrev pub vertices : Document → List Position
vertices d = fold add_position [] (positions d)

-- the segments with s, each once
abbrev pub add_segment : List Segment → Segment → List Segment
add_segment ss s = if list_any (segment_eq s) ss then ss else (s ∷ ss)

-- the segments of the map, each once
abbrev pub distinct_segments : Document → List Segment
distinct_segments d = fold add_segment [] (all_segments d)

-- how many features, vertices and segments the map has
pub record Counts : Type 0 where
  pub feature_count : ℕ
  pub vertex_count : ℕ
  pub segment_count : ℕ

-- the counts of a document
abbrev pub counts_of : Document → Counts
counts_of d = record {
  feature_count = length (features d);
  vertex_count = length (vertices d);
  segment_count = length (distinct_segments d);
}
