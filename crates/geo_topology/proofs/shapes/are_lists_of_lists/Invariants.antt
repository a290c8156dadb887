use Rattle.kit_words.proofs.Common.{◌≡◌, list_all}
use Rattle.json_spans.specs.Common.{node, items, items_left}
use Rattle.topo_outline.specs.Common.{are_lists}
use Rattle.geo_topology.proofs.shapes.are_lists_of_lists.Given as goal

abbrev pub invariant-loop-part : goal.invariant-loop-part
invariant-loop-part l = list_all are_lists (items_left l.part-iterator) ≡ list_all are_lists (items (node l.fn.span))
