use Rattle.kit_words.proofs.Common.{◌≡◌, ◌≤◌, length, map, take}
use Rattle.topo_outline.specs.Common.{leaves_in, view_item}
use Rattle.cover_report.proofs.layers.leaf_count.Given as goal

abbrev pub invariant-loop-item : goal.invariant-loop-item
invariant-loop-item g l = record {
  value : l.count ≡ length (leaves_in (map view_item (take l.item-index l.items)));
  bound : l.count ≤ l.item-index;
}
