use Rattle.kit_words.proofs.Common.{◌≡◌, ◌+◌, length, filter}
use Rattle.json_spans.specs.Common.{node, items, items_left}
use Rattle.grid_reader.specs.Common.{has_further}
use Rattle.grid_reader.proofs.grid.heights_in_arc.Given as goal

abbrev pub invariant-loop-part : goal.invariant-loop-part
invariant-loop-part l = l.count + length (filter has_further (items_left l.part-iterator)) ≡ l.fn.before + length (filter has_further (items (node l.fn.arc)))
