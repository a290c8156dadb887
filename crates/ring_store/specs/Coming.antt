-- What is still to come of a ring that is gone along key by key.
use Rattle.std.specs.Prelude.{ℕ, Bool, List, ◌++◌, ◌-◌, drop}
use Rattle.slab.specs.Slab.{Slab, get}
use Rattle.arc_tables.specs.declared.arc.Use.{Use}
use Rattle.arc_tables.specs.declared.arc.Arc.{Arc}
use Rattle.arc_tables.specs.Common.{links, walk, chain, begins, path_in}

-- the keys of a path, or of its reverse, from the at-th on, counted from 1, but for the last
abbrev pub from_place : List ℕ → Bool → ℕ → List ℕ
from_place path back at = drop (at - 1) (begins (links (walk back path)))

module _ {A : Type 0} where
  -- and those of the uses that follow
  abbrev pub keys_left : Slab (Arc A) → List Use → List ℕ → Bool → ℕ → List ℕ
  keys_left arcs uses path back at = from_place path back at ++ begins (chain (λ i. path_in (get arcs i)) uses)
