use Rattle.kit_words.proofs.Common.{◌≡◌, ◌++◌, map, take}
use Rattle.map_text.specs.Common.{arc_text}
use Rattle.segment_paths.specs.Common.{paths_seen}
use Rattle.place_text.specs.Common.{path_positions, behind_if}
use Rattle.place_text.proofs.topology.push_way_arcs.Given as goal

-- the arcs so far
abbrev pub invariant-loop-index : goal.invariant-loop-index
invariant-loop-index g l =
    l.text.items ≡ l.fn.text.items ++ behind_if l.more (map (arc_text l.delta) (map path_positions (paths_seen (take l.index l.paths))))
