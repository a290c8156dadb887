use Rattle.kit_words.proofs.Common.{◌≤◌, ◌+◌, ◌++◌, drop, into_iter_items, length, List, map}
use Rattle.layer_sides.specs.Common.{IsProperLayer}
use Rattle.topo_outline.specs.Common.{leaves, view_layer}
use Rattle.topo_reader.specs.Common.{feature_positions}
use Rattle.cover_report.specs.Layers.{AreLooks, LookedAt, asked_layers, polygons_in, view_looked}
use Rattle.cover_report.proofs.looked.looks_of.Given as goal

-- whatever is found in the layers that are left, with that it is found in all
abbrev pub invariant-loop-layer : goal.invariant-loop-layer
invariant-loop-layer g l = record {
  few : l.looks.first + length (leaves (map view_layer (drop l.layer-index l.layers))) ≤ 200000;
  proper : IsProperLayer (polygons_in (map feature_positions (into_iter_items l.looks.rest)));
  found : (ks : List LookedAt)
      → AreLooks (asked_layers (map (λ name. name.now) l.fn.names) l.looks.first (map feature_positions (into_iter_items l.looks.rest)) (map view_layer (drop l.layer-index l.layers))) ks
      → AreLooks (asked_layers (map (λ name. name.now) l.fn.names) 0 (map feature_positions l.fn.features.items) (map view_layer l.fn.layers)) (map view_looked l.looks.looks.items ++ ks);
}
