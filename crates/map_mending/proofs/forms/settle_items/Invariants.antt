use Rattle.kit_words.proofs.Common.{◌≡◌, ◌++◌, map, take, drop, length}
use Rattle.topo_outline.specs.Common.{leaves_in, view_item}
use Rattle.topo_reader.specs.Common.{feature_positions}
use Rattle.map_mending.specs.Common.{pieces_after}
use Rattle.map_mending.proofs.forms.settle_items.Given as goal

-- those before the place are settled, and those from it on will be by what is left
abbrev pub invariant-loop-item : goal.invariant-loop-item
invariant-loop-item g l = record {
  ahead : drop l.item-index l.items ≡ drop l.item-index l.fn.items;
  settled : map view_item (take l.item-index l.items) ++ pieces_after (map feature_positions l.rest) (map view_item (drop l.item-index l.fn.items))
      ≡ pieces_after (map feature_positions l.fn.features) (map view_item l.fn.items);
  left : drop (length (leaves_in (map view_item (drop l.item-index l.fn.items)))) l.rest
      ≡ drop (length (leaves_in (map view_item l.fn.items))) l.fn.features;
}
