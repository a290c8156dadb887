use Rattle.kit_words.proofs.Common.{◌≡◌, drop, map, list_any}
use Rattle.topo_outline.specs.Common.{view_item}
use Rattle.grid_reader.specs.Common.{is_kept_text}
use Rattle.grid_reader.proofs.reading.has_text.Given as goal

abbrev pub invariant-loop-item : goal.invariant-loop-item
invariant-loop-item g l = list_any is_kept_text (map view_item (drop l.item-index l.items)) ≡ list_any is_kept_text (map view_item l.fn.items)
