use Rattle.kit_words.proofs.Common.{◌≡◌, ◌++◌, map, take}
use Rattle.map_text.specs.Common.{arc_text, commas}
use Rattle.place_text.specs.Common.{side_ends}
use Rattle.place_text.proofs.topology.push_side_arcs.Given as goal

-- the arcs so far
abbrev pub invariant-loop-index : goal.invariant-loop-index
invariant-loop-index g l =
    l.text.items ≡ l.fn.text.items ++ commas (map (arc_text l.delta) (map side_ends (take l.index l.sides)))
