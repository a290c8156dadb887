use Rattle.kit_words.proofs.Common.{◌≡◌, ◌+◌, length, filter, flat_map}
use Rattle.json_spans.specs.Common.{node, items, items_left}
use Rattle.grid_reader.specs.Common.{has_further, heights}
use Rattle.grid_reader.proofs.grid.heights.Given as goal

abbrev pub invariant-loop-arc : goal.invariant-loop-arc
invariant-loop-arc l = l.count + length (filter has_further (flat_map items (items_left l.arc-iterator))) ≡ heights (node l.fn.arcs)
