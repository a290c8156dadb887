-- Two segments in conflict, as a pair.
use Rattle.std.specs.Prelude.{◌≡◌, ℕ, List, Option, option_map}
use Rattle.grid_geometry.specs.Common.{Segment}
use Rattle.ring_machine.specs.Common.{Document, first_pair}
use Rattle.topo_reader.specs.Common.{Reads}
use Rattle.map_features.specs.declared.conflicts.Conflict.{Conflict}

abbrev pub conflict_pair : Option Conflict → Option (Segment × Segment)
conflict_pair conflict = option_map (λ c. (c.first, c.second)) conflict

-- the first pair in conflict of the document that the bytes mean, or none where it has none
abbrev pub IsFirstConflict : List ℕ → Option Conflict → Type 0
IsFirstConflict bytes conflict =
    (d : Document) → Reads bytes d → conflict_pair conflict ≡ first_pair d
