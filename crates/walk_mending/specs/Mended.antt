-- What stands in the place of a polygon whose walks need not be rings.
use Rattle.std.specs.Prelude.{◌≡◌, Bool, true, false, IsTrue, IsFalse, List, [], ◌∷◌, map, if◌then◌else◌}
use Rattle.std.specs.List.{flat_map, list_all, list_any}
use Rattle.grid_geometry.specs.Common.{Position, Segment}
use Rattle.ring_machine.specs.Common.{canonical, has, is_ring}
use Rattle.topo_reader.specs.Common.{is_simple}
use Rattle.walk_mending.specs.Odd.{times_in_walks, is_odd_in}

-- the rings of all parts
abbrev pub rings_of_parts : List (List (List Position)) → List (List Position)
rings_of_parts parts = flat_map (λ rings. rings) parts

-- the part has a ring
abbrev pub has_ring : List (List Position) → Bool
has_ring [] = false
has_ring (r ∷ rs) = true

-- the parts are of rings, and have exactly the odd segments of the walks, each once
pub record ArePartsOf (walks : List (List Position)) (parts : List (List (List Position)))
    : Type 0 where
  pub rings : IsTrue (list_all is_ring (rings_of_parts parts))
  pub filled : IsTrue (list_all has_ring parts)
  pub odd : (s : Segment) → times_in_walks (rings_of_parts parts) s ≡ (if is_odd_in walks s then 1 else 0)

-- what stands in the place of a polygon with these walks: where all are rings the polygon itself,
-- each begun at its least position, else parts of it
pub data IsMended (walks : List (List Position)) : List (List (List Position)) → Type 0 where
  stays : IsTrue (list_all is_simple walks) → IsMended walks (map canonical walks ∷ [])
  parted : {parts : List (List (List Position))} → IsFalse (list_all is_simple walks)
      → ArePartsOf walks parts → IsMended walks parts

-- the position is one of the parts' rings
abbrev pub is_position_of : List (List (List Position)) → Position → Bool
is_position_of parts p = list_any (λ ring. has ring p) (rings_of_parts parts)

-- both ends of each odd segment of the walks are positions of the parts
abbrev pub KeepsOddEnds : List (List Position) → List (List (List Position)) → Type 0
KeepsOddEnds walks parts = (s : Segment) → IsTrue (is_odd_in walks s)
    → IsTrue (is_position_of parts s.lo) × IsTrue (is_position_of parts s.hi)

-- some segment stands an odd number of times in the walks
abbrev pub HasOdd : List (List Position) → Type 0
HasOdd walks = (s : Segment) × IsTrue (is_odd_in walks s)

-- not all walks are rings, and yet they bound something
abbrev pub BoundWithoutRings : List (List Position) → Type 0
BoundWithoutRings walks = IsFalse (list_all is_simple walks) × HasOdd walks
