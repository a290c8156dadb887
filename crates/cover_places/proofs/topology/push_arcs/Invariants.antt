use Rattle.kit_words.proofs.Common.{◌≡◌, ◌++◌, map, take, codes}
use Rattle.map_text.specs.Common.{arc_text, commas}
use Rattle.cover_places.specs.Text.{side_positions}
use Rattle.cover_places.proofs.topology.push_arcs.Given as goal

-- the arcs so far
abbrev pub invariant-loop-index : goal.invariant-loop-index
invariant-loop-index g l =
    l.text.items ≡ (l.fn.text.items ++ codes "[") ++ commas (map (arc_text l.delta) (map side_positions (take l.index l.sides)))
