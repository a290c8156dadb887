-- Which segments of walks bound something.
use Rattle.std.specs.Prelude.{ℕ, ◌%◌, ◌==◌, nat_lt, Bool, List, if◌then◌else◌}
use Rattle.std.specs.List.{count_by, flat_map, list_all, list_any}
use Rattle.grid_geometry.specs.Common.{Position, Segment, segment_eq}
use Rattle.topo_reader.specs.Common.{is_simple}
use Rattle.walk_faults.specs.Common.{walk_segments}

-- the segment is among these
abbrev pub is_among : List Segment → Segment → Bool
is_among ss s = list_any (segment_eq s) ss

-- how often the segment stands in the walks, in either direction
abbrev pub times_in_walks : List (List Position) → Segment → ℕ
times_in_walks walks s = count_by (segment_eq s) (flat_map walk_segments walks)

-- by the even-odd rule only segments that stand an odd number of times in walks bound anything
abbrev pub is_odd_in : List (List Position) → Segment → Bool
is_odd_in walks s = times_in_walks walks s % 2 == 1

-- a segment bounds in a polygon: where its walks are all rings each of theirs does, else those
-- that stand an odd number of times
abbrev pub is_bounding : List (List Position) → Segment → Bool
is_bounding walks s =
    if list_all is_simple walks then nat_lt 0 (times_in_walks walks s) else is_odd_in walks s

-- a segment bounds in a polygon of the map, which is given by feature, polygon and ring
abbrev pub is_bounding_in : List (List (List (List Position))) → Segment → Bool
is_bounding_in features s = list_any (list_any (λ walks. is_bounding walks s)) features
