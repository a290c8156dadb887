-- Which vertices the rings join, and the rings at a vertex.
use Rattle.std.specs.Prelude.{ℕ, ◌≡◌, ◌≢◌, ◌≤◌, ◌⊎◌, ◌↔◌, List, Some, get_or}
use Rattle.std.specs.FinMap as rings
use Rattle.ring_store.specs.declared.neighbours.Neighbours.{Neighbours}
use Rattle.ring_store.specs.declared.neighbours.Neighbours.TheVariants.{None, One, Two, More}
use Rattle.arc_tables.specs.Common.{Edge, times, Rings}

-- some ring has the segment of k and x
pub record Joined (m : Rings) (k x : ℕ) : Type 0 where
  pub ring : ℕ
  pub edges : List Edge
  pub held : rings.get m ring ≡ Some edges
  pub has : 1 ≤ times k x edges

-- a ring with these edges is held, and has a segment that ends at k
pub record Passes (m : Rings) (k : ℕ) (edges : List Edge) : Type 0 where
  pub ring : ℕ
  pub other : ℕ
  pub held : rings.get m ring ≡ Some edges
  pub has : 1 ≤ times k other edges

-- three vertices that are joined to k
pub record Three (m : Rings) (k : ℕ) : Type 0 where
  pub a : ℕ
  pub b : ℕ
  pub c : ℕ
  pub apart : (a ≢ b) × (a ≢ c) × (b ≢ c)
  pub joined : Joined m k a × Joined m k b × Joined m k c

-- exactly these vertices are joined to k, or there are more than two
abbrev pub AreNeighbours : Rings → ℕ → Neighbours → Type 0
AreNeighbours m k None = (x : ℕ) → ¬ Joined m k x
AreNeighbours m k (One a) = (x : ℕ) → Joined m k x ↔ (x ≡ a)
AreNeighbours m k (Two a b) = (a ≢ b) × ((x : ℕ) → Joined m k x ↔ ((x ≡ a) ⊎ (x ≡ b)))
AreNeighbours m k More = Three m k

-- the list has for each vertex which are joined to it, and ends where no later one has any
abbrev pub AreAllNeighbours : Rings → List Neighbours → Type 0
AreAllNeighbours m table = (k : ℕ) → AreNeighbours m k (get_or table k None)
