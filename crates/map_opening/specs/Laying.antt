-- Rings that are laid along keys: which of them stand so far, and what an index has of them.
use Rattle.std.specs.Prelude.{ℕ, ◌≡◌, List, map, length, Some, IsTrue, Contains}
use Rattle.std.specs.FinMap as table
use Rattle.std.specs.FinSet as set
use Rattle.std.specs.List.{flat_map, sum_by}
use Rattle.grid_geometry.specs.Common.{Segment}
use Rattle.ring_machine.specs.Common.{segments, are_distinct}
use Rattle.vertex_index.specs.Common.{Placement, place}
use Rattle.arc_tables.specs.Common.{Rings, edges}
use Rattle.local_planarity.specs.Common.{IsFilled}
use Rattle.ring_store.specs.declared.tables.RingTables.{RingTables}
use Rattle.ring_store.specs.Common.{IsRound, IsSide}
use Rattle.map_opening.specs.declared.opened.OpenedRings.{OpenedRings}

-- the segments of the rings along these keys, as often as they stand there
abbrev pub segments_along : Placement → List (List ℕ) → List Segment
segments_along places keyed = flat_map (λ keys. segments (map (place places) keys)) keyed

-- the rings with these numbers go along these keys, and no other ring is there
pub record IsLaid (rings : Rings) (numbers : List ℕ) (keyed : List (List ℕ)) : Type 0 where
  pub along : map (table.get rings) numbers ≡ map (λ keys. Some (edges keys)) keyed
  pub only : (r : ℕ) → IsTrue (table.contains_key rings r) → Contains numbers r
  pub once : IsTrue (are_distinct numbers)

-- the index holds the segments of all rings
abbrev pub HasSides : {I A : Type 0} → RingTables I A → Type 0
HasSides tables = (t : Segment) → IsSide tables.vertices tables.borders t
    → IsTrue (set.contains tables.index.held t)

-- the rings along these keys are laid, with their segments
pub record AreLaid {I A : Type 0} (keyed : List (List ℕ)) (o : OpenedRings I A) : Type 0 where
  pub round : (keys : List ℕ) → Contains keyed keys → IsRound o.tables.vertices keys
  pub laid : IsLaid o.tables.borders o.numbers.items keyed
  pub filled : IsFilled o.tables.index.held o.first (segments_along o.tables.vertices keyed)
  pub size : o.positions ≡ sum_by length keyed
