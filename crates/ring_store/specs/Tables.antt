-- The tables of the rings of a map.
use Rattle.std.specs.Prelude.{ℕ, List, [], map, unwrap_or}
use Rattle.std.specs.FinMap as table
use Rattle.grid_geometry.specs.Common.{Position}
use Rattle.vertex_index.specs.Common.{Placement, place}
use Rattle.arc_tables.specs.Common.{Rings, begins}
use Rattle.ring_store.specs.Standing.{Stands}
use Rattle.ring_store.specs.declared.tables.RingTables.{RingTables}

-- the positions of the ring with this number, from its first key on
abbrev pub keyed_ring : Placement → Rings → ℕ → List Position
keyed_ring places rings r = map (place places) (begins (unwrap_or (table.get rings r) []))

module _ {I A : Type 0} where
  -- the tables belong together
  abbrev pub AreStanding : RingTables I A → Type 0
  AreStanding t = Stands t.vertices t.borders t.index.held

  -- the positions of the ring with this number, from its first key on
  abbrev pub ring_in : RingTables I A → ℕ → List Position
  ring_in t r = keyed_ring t.vertices t.borders r
