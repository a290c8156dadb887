-- Worked examples: what is found in small maps.
use Rattle.kit_words.proofs.Common.{◌≡◌, ℕ, true, false, refl, pos, List, [], ◌∷◌, if◌then◌else◌, fold}
use Rattle.grid_geometry.specs.Common.{Position, position, Segment, segment, segment_eq, segment_lt, cross, is_within}
use Rattle.grid_geometry.specs.Common.{is_on, are_split, orientation}
use Rattle.ring_machine.specs.Common.{add_position}
use Rattle.topo_outline.specs.declared.fault.RingAt.{RingAt}
use Rattle.walk_faults.specs.Common.{Touch, Crossing, walks_of, is_short_walk, repeated, repeat_at, short_walks, all_repeats}
use Rattle.walk_faults.specs.Common.{all_positions, segments_of_walks, walk_segments, touch_at, crossing_at, touches_among}
use Rattle.walk_faults.specs.Common.{crossings_among, is_closed_ring}

abbrev at : ℕ → ℕ → Position
at x y = position (pos x) (pos y)

abbrev seg : ℕ → ℕ → ℕ → ℕ → Segment
seg a b c d = segment (at a b) (at c d)

abbrev ring_at : ℕ → ℕ → ℕ → RingAt
ring_at f p r = record { feature = f; polygon = p; ring = r }

-- a map by feature, polygon and ring
abbrev Map : Type 0
Map = List (List (List (List Position)))

-- a feature of one polygon with one ring
abbrev feature : List Position → List (List (List Position))
feature walk = (walk ∷ []) ∷ []

-- ascending segments with s in its place, each once
abbrev add_side : List Segment → Segment → List Segment
add_side [] s = s ∷ []
add_side (t ∷ ts) s = if segment_lt s t then (s ∷ t ∷ ts) else (if segment_eq s t then (t ∷ ts) else (t ∷ add_side ts s))

abbrev sides : Map → List Segment
sides m = fold add_side [] (segments_of_walks (walks_of m))

abbrev touches : Map → List Touch
touches m = touches_among (fold add_position [] (all_positions (walks_of m))) (sides m)

abbrev crossings : Map → List Crossing
crossings m = crossings_among (sides m) (sides m)

-- ---- walks

-- the one edge of a single position has equal ends, and two positions make one segment, led twice
no_segment : walk_segments (at 2 2 ∷ []) ≡ []
no_segment = refl

none_at_all : walk_segments [] ≡ []
none_at_all = refl

there_and_back : walk_segments (at 0 0 ∷ at 5 0 ∷ []) ≡ (seg 0 0 5 0 ∷ seg 0 0 5 0 ∷ [])
there_and_back = refl

-- a triangle is not short and is a ring, wherever it begins
abbrev triangle : List Position
triangle = at 5 0 ∷ at 0 0 ∷ at 0 5 ∷ []

is_ring_itself : is_closed_ring triangle ≡ true
is_ring_itself = refl

is_long : is_short_walk triangle ≡ false
is_long = refl

-- a position that stands twice, though not beside itself
apart_twice : repeated (at 0 0 ∷ at 3 3 ∷ at 0 0 ∷ at 3 0 ∷ []) ≡ (at 0 0 ∷ [])
apart_twice = refl

-- ---- a vertex on a border

abbrev on_a_border : Map
on_a_border =
    feature (at 0 0 ∷ at 10 0 ∷ at 10 10 ∷ at 0 10 ∷ [])
    ∷ feature (at 10 0 ∷ at 20 0 ∷ at 20 5 ∷ at 10 5 ∷ [])
    ∷ feature (at 10 5 ∷ at 20 5 ∷ at 20 10 ∷ at 10 10 ∷ []) ∷ []

touches-on_a_border : touches on_a_border ≡ (touch_at (at 10 5) (seg 10 0 10 10) ∷ [])
unfolding is_within is_on orientation
touches-on_a_border = refl

crossings-on_a_border : crossings on_a_border ≡ []
unfolding cross are_split orientation
crossings-on_a_border = refl

-- ---- a crossing between vertices

abbrev between_vertices : Map
between_vertices =
    feature (at 0 0 ∷ at 20 0 ∷ at 20 7 ∷ at 0 10 ∷ [])
    ∷ feature (at 5 8 ∷ at 30 8 ∷ at 30 20 ∷ at 5 20 ∷ []) ∷ []

crossings-between : crossings between_vertices
    ≡ (crossing_at (seg 0 10 20 7) (seg 5 8 5 20) ∷ crossing_at (seg 0 10 20 7) (seg 5 8 30 8) ∷ [])
unfolding cross are_split orientation
crossings-between = refl

touches-between : touches between_vertices ≡ []
unfolding is_within is_on orientation
touches-between = refl

-- ---- a stretch in common

abbrev stretch_in_common : Map
stretch_in_common =
    feature (at 0 0 ∷ at 10 0 ∷ at 10 10 ∷ at 0 10 ∷ [])
    ∷ feature (at 10 5 ∷ at 20 5 ∷ at 20 15 ∷ at 10 15 ∷ []) ∷ []

touches-stretch : touches stretch_in_common
    ≡ (touch_at (at 10 5) (seg 10 0 10 10) ∷ touch_at (at 10 10) (seg 10 5 10 15) ∷ [])
unfolding is_within is_on orientation
touches-stretch = refl

-- ---- a ring through a position twice, and a spike

abbrev through_twice : Map
through_twice = feature (at 0 0 ∷ at 4 0 ∷ at 2 2 ∷ at 4 4 ∷ at 0 4 ∷ at 2 2 ∷ []) ∷ []

repeats-through : all_repeats (walks_of through_twice) ≡ (repeat_at (ring_at 0 0 0) (at 2 2) ∷ [])
repeats-through = refl

abbrev spike : Map
spike = feature (at 0 0 ∷ at 10 0 ∷ at 10 10 ∷ at 10 15 ∷ at 10 10 ∷ at 0 10 ∷ []) ∷ []

repeats-spike : all_repeats (walks_of spike) ≡ (repeat_at (ring_at 0 0 0) (at 10 10) ∷ [])
repeats-spike = refl

-- ---- rings that collapsed

abbrev collapsed : Map
collapsed =
    feature (at 0 0 ∷ at 5 0 ∷ [])
    ∷ (((at 2 2 ∷ []) ∷ []) ∷ ((at 0 0 ∷ at 10 0 ∷ at 10 10 ∷ at 0 10 ∷ []) ∷ []) ∷ []) ∷ []

short-collapsed : short_walks (walks_of collapsed) ≡ (ring_at 0 0 0 ∷ ring_at 1 0 0 ∷ [])
short-collapsed = refl

touches-collapsed : touches collapsed ≡ (touch_at (at 5 0) (seg 0 0 10 0) ∷ [])
unfolding is_within is_on orientation
touches-collapsed = refl

-- ---- two loops of one polygon that overlap

abbrev two_loops : Map
two_loops =
    feature (at 0 0 ∷ at 6 0 ∷ at 6 6 ∷ at 0 6 ∷ at 0 0 ∷ at 3 3 ∷ at 9 3 ∷ at 9 9 ∷ at 3 9 ∷ at 3 3 ∷ []) ∷ []

repeats-two_loops : all_repeats (walks_of two_loops)
    ≡ (repeat_at (ring_at 0 0 0) (at 0 0) ∷ repeat_at (ring_at 0 0 0) (at 3 3) ∷ [])
repeats-two_loops = refl

crossings-two_loops : crossings two_loops
    ≡ (crossing_at (seg 0 6 6 6) (seg 3 3 3 9) ∷ crossing_at (seg 3 3 9 3) (seg 6 0 6 6) ∷ [])
unfolding cross are_split orientation
crossings-two_loops = refl
