use Rattle.kit_words.proofs.Common.{◌≡◌, list_all}
use Rattle.json_spans.specs.Common.{items, items_left, node}
use Rattle.topo_outline.specs.Common.{is_list}
use Rattle.geo_features.proofs.points.are_lists.Given as goal

abbrev pub invariant-loop-part : goal.invariant-loop-part
invariant-loop-part l = list_all is_list (items_left l.part-iterator) ≡ list_all is_list (items (node l.fn.value))
