-- The tables seen as rings, and what is true of them.
use Rattle.std.specs.Prelude.{ℕ, ◌≡◌, ◌≢◌, List, map, Option, option_map, is_some}
use Rattle.std.specs.FinMap as rings
use Rattle.slab.specs.Slab as slab
use Rattle.slab.specs.Slab.{Slab, get, ContainsKey}
use Rattle.arc_tables.specs.declared.arc.Ring.{Ring}
use Rattle.arc_tables.specs.declared.tables.Tables.{Tables}
use Rattle.arc_tables.specs.Ways.{Edge, chain, Once}
use Rattle.arc_tables.specs.Rings.{Rings}
use Rattle.arc_tables.specs.Stores.{path_of, Whole}

module _ {A : Type 0} where
  -- the edges of a ring, where its arcs have these paths
  abbrev pub edges_in : (ℕ → List ℕ) → Option (Ring A) → Option (List Edge)
  edges_in path o = option_map (λ r. chain path r.uses.items) o

  -- each ring's uses make its edges
  abbrev pub rings_of : Tables A → Rings
  rings_of t = rings.from_entries (slab.entries_from 0 (map (edges_in (path_of t)) t.rings.slots))

  -- the tables belong together, and each segment stands in one arc at most, and there once
  pub record Sound (t : Tables A) : Type 0 where
    pub whole : Whole t
    pub once : Once (path_of t)

-- one more key holds a value
pub record HoldsOneMore {T : Type 0} (old new : Slab T) (r : ℕ) : Type 0 where
  pub here : ContainsKey new r
  pub others : (k : ℕ) → k ≢ r → is_some (get new k) ≡ is_some (get old k)
