-- Words of the sweep: its vertices, the list of the borders under way, and what is kept with them.
use Rattle.std.specs.Prelude.{ℕ, suc, ◌≡◌, ◌<◌, ◌≤◌, ◌==◌, ◌&&◌, ◌++◌, ◌↔◌, Bool, not, false, pos, neg_ℤ}
use Rattle.std.specs.Prelude.{List, [], ◌∷◌, map, length, take, drop, Contains, IsTrue, IsFalse, nat_lt, slice_index_or}
use Rattle.std.specs.Prelude.{slice_range, slice_set, if◌then◌else◌}
use Rattle.std.specs.List.{All, AllAdjacentBelow, AllByRecursion}
use Rattle.std.specs.List.Sorted.{IsStrictlySortedBy}
use Rattle.std.specs.Ordering.{nat_cmp}
use Rattle.std.specs.declared.cmp.Ordering.{Ordering}
use Rattle.grid_geometry.specs.Common.{IsSegment, Position, Segment, conflict, position, position_cmp, position_eq, xor}
use Rattle.layer_sides.specs.Levels.{bottom, level_lt, top}
use Rattle.layer_sides.specs.Sides.{doubled}
use Rattle.layer_sides.specs.Borders.{Bordering}
use Rattle.layer_sides.specs.Order.{InOrder, is_left, is_right}
use Rattle.layer_sides.specs.Sweep.{has_number}

-- those of which P holds, ascending, each once
pub record Ascends {X : Type 0} (cmp : X → X → Ordering) (P : X → Type 0) (found : List X) : Type 0 where
  pub ascending : IsStrictlySortedBy cmp found
  pub all : (x : X) → Contains found x ↔ P x

-- ---- places

-- how often a place stands among these
abbrev pub times : ℕ → List ℕ → ℕ
times i [] = 0
times i (k ∷ ks) = if k == i then suc (times i ks) else times i ks

-- these are the places below n that pass, each once
abbrev pub ListsPlaces : ℕ → (ℕ → Bool) → List ℕ → Type 0
ListsPlaces n test places = (i : ℕ) → times i places ≡ (if nat_lt i n && test i then 1 else 0)

-- each place is below n
abbrev pub AreBelow : ℕ → List ℕ → Type 0
AreBelow n places = All (λ i. i < n) places

-- each of these places stands among them once, and not among the others
abbrev pub AreApartFrom : List ℕ → List ℕ → Type 0
AreApartFrom others places = (i : ℕ) → Contains places i → (times i places ≡ 1) × (times i others ≡ 0)

-- ---- segments

-- the segments of the borders
abbrev pub segments_of : List Bordering → List Segment
segments_of bs = map (λ b. b.segment) bs

-- the segment at a place
abbrev pub segment_at : List Segment → ℕ → Segment
segment_at ss i = slice_index_or ss i (record { lo = position (pos 0) (pos 0); hi = position (pos 0) (pos 0) })

-- the ends of each segment differ, the lesser first
abbrev pub AreSegments : List Segment → Type 0
AreSegments ss = (s : Segment) → Contains ss s → IsSegment s

-- no two segments conflict
abbrev pub NoneConflict : List Segment → Type 0
NoneConflict ss = (s t : Segment) → Contains ss s → Contains ss t → IsFalse (conflict s t)

-- ---- vertices

-- the position turned by a quarter: turned positions stand in the order of levels
abbrev pub turned : Position → Position
turned p = position p.y (neg_ℤ p.x)

-- a vertex, with the places of the segments that begin there
abbrev pub VertexOf : Type 0
VertexOf = Position × List ℕ

-- the vertices stand by level, each once
abbrev pub AreRising : List VertexOf → Type 0
AreRising vs = IsStrictlySortedBy position_cmp (map (λ v. turned v.0) vs)

-- the ends of a segment, turned
abbrev pub turned_ends : Segment → List Position
turned_ends s = turned (bottom s) ∷ turned (top s) ∷ []

-- the vertex has those of the first n segments that begin there
abbrev pub BegunAt : List Segment → ℕ → VertexOf → Type 0
BegunAt ss n v = ListsPlaces n (λ i. position_eq (bottom (segment_at ss i)) v.0) v.1

-- the place is put with the vertex that stands there
pub record Notes (place : ℕ) (at : Position) (old new : List VertexOf) : Type 0 where
  pub k : ℕ
  pub bound : k < length old
  pub there : (slice_index_or old k (at, [])).0 ≡ at
  pub noted : new ≡ slice_set old k (at, (slice_index_or old k (at, [])).1 ++ place ∷ [])

-- the vertices of the segments by level, each once, with the segments that begin there
pub record AreVertices (ss : List Segment) (vs : List VertexOf) : Type 0 where
  pub rising : AreRising vs
  pub bottoms : (s : Segment) → Contains ss s → Contains (map (λ v. turned v.0) vs) (turned (bottom s))
  pub tops : (s : Segment) → Contains ss s → Contains (map (λ v. turned v.0) vs) (turned (top s))
  pub begun : (v : VertexOf) → Contains vs v → BegunAt ss (length ss) v

-- ---- borders

-- in the place of a border that is not there
abbrev pub no_border : Bordering
no_border = record {
  segment = record { lo = position (pos 0) (pos 0); hi = position (pos 0) (pos 0) };
  bounds = [];
  right = [];
}

-- the border at a place
abbrev pub border_at : List Bordering → ℕ → Bordering
border_at bs i = slice_index_or bs i no_border

-- the borders at these places
abbrev pub borders_at : List Bordering → List ℕ → List Bordering
borders_at bs places = map (border_at bs) places

-- the numbers of the polygons that each border bounds
abbrev pub bounds_of : List Bordering → List (List ℕ)
bounds_of bs = map (λ b. b.bounds) bs

-- no two borders conflict
abbrev pub AreApart : List Bordering → Type 0
AreApart bs = (b c : Bordering) → Contains bs b → Contains bs c → IsFalse (conflict b.segment c.segment)

-- the numbers of the polygons that each border bounds ascend
abbrev pub AreSorted : List Bordering → Type 0
AreSorted bs = (b : Bordering) → Contains bs b → IsStrictlySortedBy nat_cmp b.bounds

-- all these lists of numbers ascend
abbrev pub AreAscending : List (List ℕ) → Type 0
AreAscending bounds = All (IsStrictlySortedBy nat_cmp) bounds

-- the border with these numbers for its right side
abbrev pub with_right : Bordering → List ℕ → Bordering
with_right b numbers = record b { right = numbers }

-- the borders, of which those at these places alone may have other numbers for their right sides
pub record Rewrites (places : List ℕ) (old new : List Bordering) : Type 0 where
  pub segments : segments_of new ≡ segments_of old
  pub bounds : bounds_of new ≡ bounds_of old
  pub others : (i : ℕ) → times i places ≡ 0 → border_at new i ≡ border_at old i

-- ---- the list of the borders under way

-- the segment on a grid that is twice as fine
abbrev pub twice : Segment → Segment
twice s = record { lo = doubled s.lo; hi = doubled s.hi }

-- each segment lies before those behind it, also on a grid that is twice as fine
abbrev pub AreInOrder : List Segment → Type 0
AreInOrder [] = Unit {0}
AreInOrder (s ∷ ss) = AllByRecursion (λ t. InOrder (twice s) (twice t)) ss × AreInOrder ss

-- an odd number of the borders bound polygon n
abbrev pub is_odd_of : ℕ → List Bordering → Bool
is_odd_of n [] = false
is_odd_of n (b ∷ bs) = xor (has_number n b.bounds) (is_odd_of n bs)

-- ascending numbers of the polygons that an odd number of the borders bound
pub record AreOddOf (bs : List Bordering) (numbers : List ℕ) : Type 0 where
  pub odd : (n : ℕ) → has_number n numbers ≡ is_odd_of n bs
  pub sorted : IsStrictlySortedBy nat_cmp numbers

-- the right side of each border has the polygons that an odd number of those behind it bound
abbrev pub AreNumbered : List Bordering → Type 0
AreNumbered [] = Unit {0}
AreNumbered (b ∷ bs) = AreOddOf bs b.right × AreNumbered bs

-- the borders that pass, from left to right, with what is on their right sides
pub record Stands (bs : List Bordering) (test : Segment → Bool) (places : List ℕ) : Type 0 where
  pub exact : ListsPlaces (length (segments_of bs)) (λ i. test (segment_at (segments_of bs) i)) places
  pub ordered : AreInOrder (map (segment_at (segments_of bs)) places)
  pub numbered : AreNumbered (borders_at bs places)

-- the segment begins before v by level, and ends there or after it
abbrev pub awaits : Position → Segment → Bool
awaits v s = level_lt (bottom s) v && not (level_lt (top s) v)

-- for each of these vertices there is a list of the borders that are under way there
abbrev pub StandsAtEach : List Bordering → (Position → Segment → Bool) → List VertexOf → Type 0
StandsAtEach bs under_way vs =
    (v : VertexOf) → Contains vs v → (places : List ℕ) × Stands bs (under_way v.0) places

-- ---- a vertex in the list

-- those of the list from one place to before another end at v, which is strictly on the right of the one
-- before them and strictly on the left of the one behind them
pub record CutsAt (ss : List Segment) (places : List ℕ) (v : Position) (begin end : ℕ) : Type 0 where
  pub rising : begin ≤ end
  pub bound : end ≤ length places
  pub ended : All (λ i. top (segment_at ss i) ≡ v) (slice_range places begin end)
  pub behind : (front : List ℕ) (i : ℕ) → take begin places ≡ front ++ i ∷ [] → IsTrue (is_right v (segment_at ss i))
  pub before : (i : ℕ) (back : List ℕ) → drop end places ≡ i ∷ back → IsTrue (is_left v (segment_at ss i))

-- the top of each but the first is strictly on the right of the one before it
abbrev pub AreTurned : List Segment → List ℕ → Type 0
AreTurned ss places =
    AllAdjacentBelow (λ i j. IsTrue (is_right (top (segment_at ss j)) (segment_at ss i))) places (length places)
