use Rattle.kit_words.proofs.Common.{◌≡◌, flat_map, list_all}
use Rattle.json_spans.specs.Common.{node, items, items_left}
use Rattle.grid_reader.specs.Common.{has_wholes, all_whole}
use Rattle.grid_reader.proofs.grid.all_whole.Given as goal

abbrev pub invariant-loop-arc : goal.invariant-loop-arc
invariant-loop-arc l = list_all has_wholes (flat_map items (items_left l.arc-iterator)) ≡ all_whole (node l.fn.arcs)
