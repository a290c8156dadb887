-- The rings that were read, laid in the tables of a map.
use Rattle.std.specs.Prelude.{ℕ, ◌≡◌, List, map, length, Option, IsTrue, Contains}
use Rattle.std.specs.FinMap as table
use Rattle.std.specs.List.{flat_map, sum_by}
use Rattle.grid_geometry.specs.Common.{Position, Segment}
use Rattle.ring_machine.specs.Common.{least_conflict, segments, are_distinct}
use Rattle.ring_store.specs.Common.{AreStanding, ring_in}
use Rattle.ring_store.specs.declared.tables.RingTables.{RingTables}

-- these rings stand in the tables under these numbers, in order, and no other ring is there; the
-- pair is their first in conflict, and so many positions they have
pub record AreOpened {I A : Type 0} (rings : List (List Position)) (numbers : List ℕ)
    (tables : RingTables I A) (pair : Option (Segment × Segment)) (positions : ℕ) : Type 0 where
  pub stand : AreStanding tables
  pub at : map (ring_in tables) numbers ≡ rings
  pub only : (r : ℕ) → IsTrue (table.contains_key tables.borders r) → Contains numbers r
  pub once : IsTrue (are_distinct numbers)
  pub first : least_conflict (flat_map segments rings) ≡ pair
  pub size : positions ≡ sum_by length rings
