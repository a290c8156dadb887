use Rattle.kit_words.proofs.Common.{◌≡◌, map, drop, ◌++◌}
use Rattle.topo_outline.specs.Common.{leaves, view_layer, view_place}
use Rattle.topo_outline.proofs.places.places.Given as goal

abbrev pub invariant-loop-layer : goal.invariant-loop-layer
invariant-loop-layer g l = map view_place l.found.items ++ leaves (map view_layer (drop l.layer-index l.layers)) ≡ leaves (map view_layer l.fn.layers)
