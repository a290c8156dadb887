use Rattle.kit_words.proofs.Common.{◌≡◌, ◌-◌, drop, length, map}
use Rattle.topo_outline.specs.Common.{leaves_in, view_item}
use Rattle.topo_reader.proofs.extent.less_items.Given as goal

abbrev pub invariant-loop-item : goal.invariant-loop-item
invariant-loop-item g l = l.left - length (leaves_in (map view_item (drop l.item-index l.items))) ≡ l.fn.number - length (leaves_in (map view_item l.fn.items))
