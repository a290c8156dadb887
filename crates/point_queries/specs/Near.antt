-- A ray that ends, and the names that stand an odd number of times.
use Rattle.std.specs.Prelude.{◌≡◌, ◌⊎◌, ◌&&◌, not, ℤ, int_lt, Bool, List, Contains, IsTrue}
use Rattle.grid_geometry.specs.Common.{Position, xor, Segment, Box, segment}
use Rattle.arc_store.specs.Common.{ListsRings}
use Rattle.ring_machine.specs.Common.{Document}
use Rattle.map_frame.specs.declared.names.RingName.{RingName}
use Rattle.point_queries.specs.Odd.{odd, is_name, is_passed, ring_has}

-- the ray from p to the right, as far as x
abbrev pub ray_to : Position → ℤ → Box
ray_to p x = record { x0 = p.x; y0 = p.y; x1 = x; y1 = p.y }

-- the ray from p to the left, as far as x
abbrev pub ray_back : Position → ℤ → Box
ray_back p x = record { x0 = x; y0 = p.y; x1 = p.x; y1 = p.y }

-- the segment passes the level of p behind it: one end alone is above p, and it does not count
abbrev pub is_behind : Position → Segment → Bool
is_behind p s = xor (int_lt p.y s.lo.y) (int_lt p.y s.hi.y) && not (is_passed p s)

-- rings that have one of the segments which pass the level of p behind it, among them each suspect
-- that has one of these
pub record AreBehind (d : Document) (p : Position) (suspects : List RingName) (ss : List Segment)
    (names : List RingName) : Type 0 where
  pub among : (name : RingName) → Contains names name
      → (s : Segment) × IsTrue (ring_has d name s) × IsTrue (is_behind p s)
  pub covers : (name : RingName) (s : Segment) → Contains suspects name → Contains ss s
      → IsTrue (ring_has d name s) → IsTrue (is_behind p s) → Contains names name

-- the rings that have the segment come to the names, where one of the suspects is not among these
abbrev pub ListsUnseen : Document → Segment → List RingName → List RingName → List RingName → Type 0
ListsUnseen d s suspects old new =
    ListsRings d (segment s.lo s.hi) old new
    ⊎ ((new ≡ old) × ((name : RingName) → Contains suspects name → Contains old name))

-- the name stands once more, or once less
abbrev pub Cancels : RingName → List RingName → List RingName → Type 0
Cancels name old new =
    (x : RingName) → odd (is_name x) new ≡ xor (is_name x name) (odd (is_name x) old)

-- some of the names, of which each stands an odd number of times where it did
pub record HaveOdd (names found : List RingName) : Type 0 where
  pub among : (x : RingName) → Contains found x → Contains names x
  pub odds : (x : RingName) → odd (is_name x) found ≡ odd (is_name x) names
