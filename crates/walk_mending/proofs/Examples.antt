-- Worked examples: walks led along paths, segments that bound, and what stands in the place of walks.
use Rattle.kit_words.proofs.Common.{◌≡◌, ℕ, true, false, refl, pos, List, [], ◌∷◌, map, list_all}
use Rattle.grid_geometry.specs.Common.{Position, position, Segment, segment}
use Rattle.ring_machine.specs.Common.{canonical, is_ring}
use Rattle.topo_reader.specs.Common.{is_simple}
use Rattle.segment_paths.specs.Common.{PathOfSegment}
use Rattle.walk_mending.specs.Common.{laid, times_in_walks, is_odd_in, is_bounding, is_bounding_in, rings_of_parts, has_ring}

abbrev at : ℕ → ℕ → Position
at x y = position (pos x) (pos y)

abbrev seg : ℕ → ℕ → ℕ → ℕ → Segment
seg a b c d = segment (at a b) (at c d)

-- ---- a vertex on a border

abbrev square : List Position
square = at 0 0 ∷ at 10 0 ∷ at 10 10 ∷ at 0 10 ∷ []

abbrev by_the_vertex : List PathOfSegment
by_the_vertex = (seg 10 0 10 10, at 10 5 ∷ []) ∷ []

laid-square : laid by_the_vertex square ≡ (at 0 0 ∷ at 10 0 ∷ at 10 5 ∷ at 10 10 ∷ at 0 10 ∷ [])
laid-square = refl

-- against the direction of the path its positions come the other way round
abbrev two_on_it : List PathOfSegment
two_on_it = (seg 0 0 9 0, []) ∷ (seg 10 0 10 10, at 10 3 ∷ at 10 5 ∷ []) ∷ []

led_back : laid two_on_it (at 0 10 ∷ at 10 10 ∷ at 10 0 ∷ [])
    ≡ (at 0 10 ∷ at 10 10 ∷ at 10 5 ∷ at 10 3 ∷ at 10 0 ∷ [])
led_back = refl

-- a walk of one position stays, and one of none
laid-one : laid two_on_it (at 2 2 ∷ []) ≡ (at 2 2 ∷ [])
laid-one = refl

laid-none : laid two_on_it [] ≡ []
laid-none = refl

-- ---- a ring through a position twice

abbrev through_twice : List (List Position)
through_twice = (at 0 0 ∷ at 4 0 ∷ at 2 2 ∷ at 4 4 ∷ at 0 4 ∷ at 2 2 ∷ []) ∷ []

twice-is_no_ring : list_all is_simple through_twice ≡ false
twice-is_no_ring = refl

twice-odd : is_odd_in through_twice (seg 2 2 4 4) ≡ true
twice-odd = refl

abbrev two_triangles : List (List (List Position))
two_triangles = ((at 0 4 ∷ at 2 2 ∷ at 4 4 ∷ []) ∷ []) ∷ ((at 0 0 ∷ at 4 0 ∷ at 2 2 ∷ []) ∷ []) ∷ []

triangles-are_rings : list_all is_ring (rings_of_parts two_triangles) ≡ true
triangles-are_rings = refl

triangles-once : times_in_walks (rings_of_parts two_triangles) (seg 2 2 4 4) ≡ 1
triangles-once = refl

-- ---- a bow tie, led along its paths

abbrev bow_paths : List PathOfSegment
bow_paths = (seg 0 0 10 10, at 5 5 ∷ []) ∷ (seg 0 10 10 0, at 5 5 ∷ []) ∷ []

laid-bow : laid bow_paths (at 0 0 ∷ at 10 10 ∷ at 10 0 ∷ at 0 10 ∷ [])
    ≡ (at 0 0 ∷ at 5 5 ∷ at 10 10 ∷ at 10 0 ∷ at 5 5 ∷ at 0 10 ∷ [])
laid-bow = refl

-- ---- a spike

abbrev spike : List (List Position)
spike = (at 0 0 ∷ at 10 0 ∷ at 10 10 ∷ at 10 15 ∷ at 10 10 ∷ at 0 10 ∷ []) ∷ []

spike-times : times_in_walks spike (seg 10 10 10 15) ≡ 2
spike-times = refl

spike-bounds_nothing : is_bounding spike (seg 10 10 10 15) ≡ false
spike-bounds_nothing = refl

spike-side : is_bounding spike (seg 10 0 10 10) ≡ true
spike-side = refl

-- ---- a hole tied to its border

abbrev tied : List (List Position)
tied = (at 0 0 ∷ at 10 0 ∷ at 10 10 ∷ at 0 10 ∷ at 0 0 ∷ at 3 3 ∷ at 3 6 ∷ at 6 6 ∷ at 6 3 ∷ at 3 3 ∷ []) ∷ []

tied-string : is_odd_in tied (seg 0 0 3 3) ≡ false
tied-string = refl

tied-hole : is_odd_in tied (seg 3 3 6 3) ≡ true
tied-hole = refl

-- ---- rings that collapsed, to two positions and to one

there_and_back : times_in_walks ((at 0 0 ∷ at 5 0 ∷ []) ∷ []) (seg 0 0 5 0) ≡ 2
there_and_back = refl

-- one position has no segment, not even one to itself
one_position : is_odd_in ((at 2 2 ∷ []) ∷ square ∷ []) (seg 2 2 2 2) ≡ false
one_position = refl

beside_it : is_bounding ((at 2 2 ∷ []) ∷ square ∷ []) (seg 0 0 10 0) ≡ true
beside_it = refl

-- ---- a border that was led twice: of rings each segment bounds, though it stands there twice

abbrev led_twice : List (List Position)
led_twice = square ∷ (at 0 0 ∷ at 0 10 ∷ at 5 5 ∷ []) ∷ []

twice-bounds : is_bounding led_twice (seg 0 0 0 10) ≡ true
twice-bounds = refl

twice-is_even : is_odd_in led_twice (seg 0 0 0 10) ≡ false
twice-is_even = refl

absent : is_bounding led_twice (seg 0 0 10 10) ≡ false
absent = refl

-- a segment bounds in a map where it bounds in some polygon
in_a_map : is_bounding_in ((spike ∷ []) ∷ (tied ∷ led_twice ∷ []) ∷ []) (seg 0 0 0 10) ≡ true
in_a_map = refl

not_in_a_map : is_bounding_in ((spike ∷ []) ∷ (tied ∷ []) ∷ []) (seg 10 10 10 15) ≡ false
not_in_a_map = refl

-- ---- two loops of one polygon that overlap

abbrev two_loops : List (List Position)
two_loops =
    (at 0 0 ∷ at 6 0 ∷ at 6 3 ∷ at 6 6 ∷ at 3 6 ∷ at 0 6 ∷ at 0 0 ∷ at 3 3 ∷ at 6 3 ∷ at 9 3 ∷ at 9 9 ∷ at 3 9 ∷ at 3 6 ∷ at 3 3 ∷ []) ∷ []

loops-string : is_odd_in two_loops (seg 0 0 3 3) ≡ false
loops-string = refl

loops-inner : is_odd_in two_loops (seg 3 3 6 3) ≡ true
loops-inner = refl

abbrev loop_parts : List (List (List Position))
loop_parts =
    ((at 0 0 ∷ at 6 0 ∷ at 6 3 ∷ at 3 3 ∷ at 3 6 ∷ at 0 6 ∷ []) ∷ [])
    ∷ ((at 3 6 ∷ at 6 6 ∷ at 6 3 ∷ at 9 3 ∷ at 9 9 ∷ at 3 9 ∷ []) ∷ []) ∷ []

loops-are_rings : list_all is_ring (rings_of_parts loop_parts) ≡ true
loops-are_rings = refl

loops-inner_once : times_in_walks (rings_of_parts loop_parts) (seg 3 3 6 3) ≡ 1
loops-inner_once = refl

-- a ring is begun at its least position
begun : map canonical ((at 5 0 ∷ at 0 0 ∷ at 0 5 ∷ []) ∷ []) ≡ ((at 0 0 ∷ at 0 5 ∷ at 5 0 ∷ []) ∷ [])
begun = refl

-- a part without a ring is none
empty_part : list_all has_ring ([] ∷ []) ≡ false
empty_part = refl

-- ---- a border that is led along another one of its ring

abbrev back_along : List Position
back_along = at 0 0 ∷ at 10 0 ∷ at 7 0 ∷ at 3 0 ∷ at 5 8 ∷ []

abbrev back_paths : List PathOfSegment
back_paths = (seg 0 0 10 0, at 3 0 ∷ at 7 0 ∷ []) ∷ []

laid-back : laid back_paths back_along ≡ (at 0 0 ∷ at 3 0 ∷ at 7 0 ∷ at 10 0 ∷ at 7 0 ∷ at 3 0 ∷ at 5 8 ∷ [])
laid-back = refl

-- a segment that stood there once stands there twice then, and vanishes with its end
back-once : is_odd_in (back_along ∷ []) (seg 7 0 10 0) ≡ true
back-once = refl

back-twice : is_odd_in (laid back_paths back_along ∷ []) (seg 7 0 10 0) ≡ false
back-twice = refl
