-- The positions that the code holds, as the definitions see them.
use Rattle.std.specs.Prelude.{List, map, Vec}
use Rattle.grid_reader.specs.declared.fine_pos.FinePos.{FinePos}
use Rattle.grid_reader.specs.Fine.{FinePosition}

abbrev pub fine_seen : FinePos → FinePosition
fine_seen p = record { x = p.x; y = p.y }

abbrev pub arc_seen : {A : Type 0} → Vec FinePos A → List FinePosition
arc_seen v = map fine_seen v.items

abbrev pub arcs_seen : {A : Type 0} → List (Vec FinePos A) → List (List FinePosition)
arcs_seen arcs = map arc_seen arcs
