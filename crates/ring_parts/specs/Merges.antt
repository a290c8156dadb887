-- Two polygons joined.
use Rattle.std.specs.Prelude.{Bool, List, [], ◌∷◌, ◌++◌, map, reverse, if◌then◌else◌}
use Rattle.grid_geometry.specs.Common.{Position, edges}
use Rattle.ring_machine.specs.Common.{joined, is_common, off_run}

-- the rest of the first ring off the only common run, then that of the second, which is turned if asked
abbrev pub rests : List Position → List Position → Bool → List Position
rests r s turns =
    let other = if turns then reverse s else s in
    map (λ e. e.0) (off_run (is_common s) (edges r) ++ off_run (is_common r) (edges other))

-- the rings of two polygons that are joined: the joined outer ring, then the holes of both
abbrev pub joined_rings : List (List Position) → List (List Position) → List (List Position)
joined_rings (r ∷ holes) (s ∷ more) = joined r s ∷ (holes ++ more)
joined_rings _ _ = []
