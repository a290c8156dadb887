-- What stands an odd number of times, and the segments that count for a position.
use Rattle.std.specs.Prelude.{◌≡◌, ◌++◌, ◌==◌, ◌&&◌, not, ℕ, Bool, true, false, pos}
use Rattle.std.specs.Prelude.{is_some, unwrap_or, List, [], ◌∷◌, Contains, IsTrue, Option}
use Rattle.std.specs.List.{list_any}
use Rattle.std.specs.BTreeSet.{BTreeSet, contains}
use Rattle.std.specs.Ordering.{nat_cmp, ordering_then}
use Rattle.std.specs.declared.cmp.Ordering.{Ordering}
use Rattle.grid_geometry.specs.Common.{Position, is_counted, is_inside, xor, Segment, Box, segment, segment_eq, box_of}
use Rattle.grid_geometry.specs.Common.{boxes_meet}
use Rattle.ring_machine.specs.Common.{Document, is_segment, segments}
use Rattle.map_frame.specs.declared.names.RingName.{RingName}
use Rattle.map_frame.specs.Common.{frame_ring}
use Rattle.point_queries.specs.declared.odd.PolygonName.{PolygonName}

-- an odd number of the elements pass the test
abbrev pub odd : {X : Type 0} → (X → Bool) → List X → Bool
odd test [] = false
odd test (x ∷ xs) = xor (test x) (odd test xs)

-- no element is equal to one after it
abbrev pub EachOnce : {X : Type 0} → (X → X → Bool) → List X → Type 0
EachOnce eq [] = Unit {0}
EachOnce eq (x ∷ xs) = (list_any (eq x) xs ≡ false) × EachOnce eq xs

-- ---- segments

-- the ray from p to the right, as far as positions are in range
abbrev pub ray : Position → Box
ray p = record { x0 = p.x; y0 = p.y; x1 = pos 1000000000000; y1 = p.y }

-- the segment counts for p: the ray passes it
abbrev pub is_passed : Position → Segment → Bool
is_passed p s = is_counted p s.lo s.hi

-- segments of the document that count for p, each once, and among them each that meets the box
pub record ArePassed (d : Document) (p : Position) (rect : Box) (ss : List Segment) : Type 0 where
  pub among : (s : Segment) → Contains ss s → IsTrue (is_segment d s) × IsTrue (is_passed p s)
  pub covers : (s : Segment) → IsTrue (is_segment d s) → IsTrue (is_passed p s)
      → boxes_meet (box_of s) rect ≡ true → Contains ss s
  pub apart : EachOnce segment_eq ss

-- ---- rings

-- the ring with this name
abbrev pub ring_named : Document → RingName → Option (List Position)
ring_named d name = frame_ring d name.feature name.polygon name.ring

-- the ring with this name has the segment
abbrev pub ring_has : Document → RingName → Segment → Bool
ring_has d name s = list_any (segment_eq (segment s.lo s.hi)) (segments (unwrap_or (ring_named d name) []))

-- both are the name of one ring
abbrev pub is_name : RingName → RingName → Bool
is_name a b = a.feature == b.feature && (a.polygon == b.polygon && a.ring == b.ring)

-- what was appended are rings, each an odd number of times where it has an odd number of these
-- segments
pub record ListsOdd (d : Document) (ss : List Segment) (old new : List RingName) : Type 0 where
  pub found : List RingName
  pub appended : new ≡ old ++ found
  pub rings : (name : RingName) → Contains found name → IsTrue (is_some (ring_named d name))
  pub odds : (name : RingName) → odd (is_name name) found ≡ odd (ring_has d name) ss

-- the rings of segments that count for p, a ring for each of its own
pub record HavePassed (d : Document) (p : Position) (rect : Box) (names : List RingName)
    : Type 0 where
  pub ss : List Segment
  pub passed : ArePassed d p rect ss
  pub listed : ListsOdd d ss [] names

-- the ring with this name holds p
abbrev pub holds : Document → Position → RingName → Bool
holds d p name = is_inside p (unwrap_or (ring_named d name) [])

-- rings, of which each ring of the document is one an odd number of times where it holds p
pub record TellsInside (d : Document) (p : Position) (names : List RingName) : Type 0 where
  pub rings : (name : RingName) → Contains names name → IsTrue (is_some (ring_named d name))
  pub odds : (name : RingName) → IsTrue (is_some (ring_named d name))
      → odd (is_name name) names ≡ holds d p name

-- ---- polygons

-- the polygon of a ring
abbrev pub polygon_name : RingName → PolygonName
polygon_name name = record { feature = name.feature; polygon = name.polygon }

-- both are the name of one polygon
abbrev pub is_polygon : PolygonName → PolygonName → Bool
is_polygon a b = a.feature == b.feature && a.polygon == b.polygon

-- the order of polygons: by the feature, then by the place among its polygons
abbrev pub polygon_cmp : PolygonName → PolygonName → Ordering
polygon_cmp a b = ordering_then (nat_cmp a.feature b.feature) (nat_cmp a.polygon b.polygon)

-- the polygon came in where it was not, and went where it was
abbrev pub Toggles : PolygonName → BTreeSet PolygonName → BTreeSet PolygonName → Type 0
Toggles name old new =
    (x : PolygonName) → contains polygon_cmp new x
    ≡ xor (is_polygon x name) (contains polygon_cmp old x)

-- the polygons with an odd number of these rings
abbrev pub AreOdd : List RingName → BTreeSet PolygonName → Type 0
AreOdd names found =
    (x : PolygonName) → contains polygon_cmp found x ≡ odd (λ name. is_polygon x (polygon_name name)) names

-- the ring is of one of these polygons, and its feature's number is not among these
abbrev pub is_of_holder : BTreeSet PolygonName → List ℕ → RingName → Bool
is_of_holder polygons border name =
    contains polygon_cmp polygons (polygon_name name)
    && not (list_any (λ m. m == name.feature) border)
