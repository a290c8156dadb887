-- What is read for an edit of one vertex, and what the edit does to the tables.
use Rattle.std.specs.Prelude.{ℕ, ◌≡◌, ◌≢◌, List, [], ◌∷◌, Some, None, option_map}
use Rattle.std.specs.FinMap as table
use Rattle.grid_geometry.specs.Common.{Position, Segment, segment}
use Rattle.vertex_index.specs.Common.{Placement, place, IsOccupied}
use Rattle.arc_tables.specs.Common.{through, collapsed, Rings}
use Rattle.ring_store.specs.Joined.{Joined, AreNeighbours}
use Rattle.ring_store.specs.declared.neighbours.Neighbours.{Neighbours}
use Rattle.ring_store.specs.declared.neighbours.Neighbours.TheVariants.{Two}
use Rattle.ring_store.specs.Planned.{ArePlaced, AreAround, spokes}

-- ---- what is read around a vertex

-- a vertex stands at p; those that are joined to it are kept, and stand neither at p nor at q
pub record HasMoving (places : Placement) (rings : Rings) (p q : Position) : Type 0 where
  pub here : IsOccupied places p
  pub placed : (k : ℕ) → table.get places k ≡ Some p → ArePlaced places rings k
  pub apart : (k x : ℕ) → table.get places k ≡ Some p → Joined rings k x
      → (place places x ≢ p) × (place places x ≢ q)

-- what is read for a move: the vertex at p, the positions that it is joined to, the segments to
-- these from p, which go, and from q, which come
pub record IsMoving (places : Placement) (rings : Rings) (p q : Position) (key : ℕ)
    (around : List Position) (before after : List Segment) : Type 0 where
  pub here : table.get places key ≡ Some p
  pub all : AreAround places rings key around
  pub goes : before ≡ spokes p around
  pub comes : after ≡ spokes q around

-- what is read for an insertion: the vertices at a and b, their segment, which goes, and those from
-- q, which come
pub record IsParting (places : Placement) (a b q : Position) (j k : ℕ) (before : Segment)
    (after : List Segment) : Type 0 where
  pub first : table.get places j ≡ Some a
  pub second : table.get places k ≡ Some b
  pub goes : before ≡ segment a b
  pub comes : after ≡ spokes q (a ∷ b ∷ [])

-- a vertex stands at p; it is joined to exactly two, which are kept, and stand not at p
pub record HasBridging (places : Placement) (rings : Rings) (p : Position) : Type 0 where
  pub here : IsOccupied places p
  pub two : (k : ℕ) → table.get places k ≡ Some p → (found : Neighbours)
      → AreNeighbours rings k found → (i : ℕ) × (j : ℕ) × (found ≡ Two i j)
  pub placed : (k : ℕ) → table.get places k ≡ Some p → ArePlaced places rings k
  pub apart : (k x : ℕ) → table.get places k ≡ Some p → Joined rings k x → place places x ≢ p

-- what is read for a removal: the vertex at p, its two neighbours, the segments to these, which go,
-- and the segment of the two, which comes
pub record IsBridging (places : Placement) (rings : Rings) (p : Position) (key j k : ℕ)
    (before : List Segment) (after : Segment) : Type 0 where
  pub here : table.get places key ≡ Some p
  pub two : AreNeighbours rings key (Two j k)
  pub a : Position
  pub b : Position
  pub first : table.get places j ≡ Some a
  pub second : table.get places k ≡ Some b
  pub goes : before ≡ spokes p (a ∷ b ∷ [])
  pub comes : after ≡ segment a b

-- ---- what becomes of the tables

-- a new vertex at q stands between those of a and b in every ring that has their segment
pub record PutBetween (places places' : Placement) (rings rings' : Rings) (a b : ℕ) (q : Position) : Type 0 where
  pub key : ℕ
  pub new : table.get places key ≡ None
  pub placed : places' ≡ table.insert places key q
  pub edited : (r : ℕ) → table.get rings' r ≡ option_map (through a b key) (table.get rings r)

-- vertex k moved onto b and is gone
pub record TakenOut (places places' : Placement) (rings rings' : Rings) (k b : ℕ) : Type 0 where
  pub placed : places' ≡ table.remove places k
  pub edited : (r : ℕ) → table.get rings' r ≡ option_map (collapsed k b) (table.get rings r)
