use Rattle.kit_words.proofs.Common.{◌≡◌, ◌≤◌, map, take}
use Rattle.topo_outline.specs.Common.{view_item}
use Rattle.geo_text.specs.Found.{points_of}
use Rattle.geo_text.proofs.layers.point_count.Given as goal

abbrev pub invariant-loop-item : goal.invariant-loop-item
invariant-loop-item g l = record {
  value : l.count ≡ points_of (map view_item (take l.item-index l.items));
  bound : l.count ≤ l.item-index;
}
