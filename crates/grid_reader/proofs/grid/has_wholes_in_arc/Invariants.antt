use Rattle.kit_words.proofs.Common.{◌≡◌, list_all}
use Rattle.json_spans.specs.Common.{node, items, items_left}
use Rattle.grid_reader.specs.Common.{has_wholes}
use Rattle.grid_reader.proofs.grid.has_wholes_in_arc.Given as goal

abbrev pub invariant-loop-part : goal.invariant-loop-part
invariant-loop-part l = list_all has_wholes (items_left l.part-iterator) ≡ list_all has_wholes (items (node l.fn.arc))
