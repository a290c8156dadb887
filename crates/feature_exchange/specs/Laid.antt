-- Rings that were laid, or are to be taken out.
use Rattle.std.specs.Prelude.{ℕ, ◌≡◌, List, map, Some, None, Contains, IsTrue}
use Rattle.std.specs.FinMap as table
use Rattle.grid_geometry.specs.Common.{Position}
use Rattle.ring_machine.specs.Common.{are_distinct}
use Rattle.vertex_index.specs.Common.{Placement}
use Rattle.arc_tables.specs.Common.{Edge, Rings, edges}
use Rattle.ring_store.specs.Common.{IsVisited}
use Rattle.feature_exchange.specs.declared.laid.LaidRing.{LaidRing}

-- rings came under these numbers, which differ and had none; those that stood are as they were
pub record AreAdded (old new : Rings) (numbers : List ℕ) : Type 0 where
  pub free : (r : ℕ) → Contains numbers r → table.get old r ≡ None
  pub different : IsTrue (are_distinct numbers)
  pub kept : (r : ℕ) (es : List Edge) → table.get old r ≡ Some es → table.get new r ≡ Some es
  pub others : (r : ℕ) → ¬ (Contains numbers r) → table.get new r ≡ table.get old r

-- the rings with these numbers are gone, and the others are as they were
pub record AreGone (old new : Rings) (numbers : List ℕ) : Type 0 where
  pub gone : (r : ℕ) → Contains numbers r → table.get new r ≡ None
  pub others : (r : ℕ) → ¬ (Contains numbers r) → table.get new r ≡ table.get old r

-- each vertex of the old map is where it was
abbrev pub KeepsPlaces : Placement → Placement → Type 0
KeepsPlaces old new = (k : ℕ) (p : Position) → table.get old k ≡ Some p → table.get new k ≡ Some p

-- of these keys those are left that a ring visits; any other key is left as it was
pub record LeavesVisited (rings : Rings) (keys : List ℕ) (old new : Placement) : Type 0 where
  pub kept : (k : ℕ) (p : Position) → table.get new k ≡ Some p → table.get old k ≡ Some p
  pub stays : (k : ℕ) → IsVisited rings k → table.get new k ≡ table.get old k
  pub others : (k : ℕ) → ¬ (Contains keys k) → table.get new k ≡ table.get old k
  pub gone : (k : ℕ) → Contains keys k → IsTrue (table.contains_key new k) → IsVisited rings k

module _ {A : Type 0} where
  -- the numbers of these rings
  abbrev pub numbers_of : List (LaidRing A) → List ℕ
  numbers_of laid = map (λ (l : LaidRing A). l.number) laid

  -- each of these rings stands under its number, along its keys, and none is there twice
  pub record AreThere (rings : Rings) (laid : List (LaidRing A)) : Type 0 where
    pub along : map (λ (l : LaidRing A). table.get rings l.number) laid
        ≡ map (λ (l : LaidRing A). Some (edges l.keys.items)) laid
    pub different : IsTrue (are_distinct (numbers_of laid))
