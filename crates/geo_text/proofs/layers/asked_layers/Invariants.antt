use Rattle.kit_words.proofs.Common.{◌≡◌, ◌≤◌, ◌*◌, ◌++◌, drop, map, option_map}
use Rattle.topo_outline.specs.Common.{view_layer}
use Rattle.geo_text.specs.Found.{asked_texts, view_found}
use Rattle.geo_text.proofs.layers.asked_layers.Given as goal

abbrev pub invariant-loop-layer : goal.invariant-loop-layer
invariant-loop-layer g l = record {
  found : map view_found l.found.items ++ asked_texts (option_map (λ t. t.now) l.fn.name) l.leaves l.points (map view_layer (drop l.layer-index l.layers)) ≡ asked_texts (option_map (λ t. t.now) l.fn.name) 0 0 (map view_layer l.fn.layers);
  leaves : l.leaves ≤ l.layer-index * 18446744073709551615;
  points : l.points ≤ l.layer-index * 18446744073709551615;
}
