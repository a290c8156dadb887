use Rattle.kit_words.proofs.Common.{◌≡◌, ◌++◌, Bool, List, map, take, drop}
use Rattle.grid_geometry.specs.Common.{Position}
use Rattle.map_text.specs.Common.{from_first, before_first}
use Rattle.topo_writer.proofs.cutting.first_mark.Given as goal

-- none of the places before has a mark
abbrev pub invariant-loop-i : goal.invariant-loop-i
invariant-loop-i l = (junction : Position → Bool) (ring : List Position) → l.marks ≡ map junction ring
    → (from_first junction ring ≡ from_first junction (drop l.i ring))
    × (before_first junction ring ≡ take l.i ring ++ before_first junction (drop l.i ring))
