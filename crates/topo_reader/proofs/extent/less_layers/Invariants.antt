use Rattle.kit_words.proofs.Common.{◌≡◌, ◌-◌, drop, length, map}
use Rattle.topo_outline.specs.Common.{leaves, view_layer}
use Rattle.topo_reader.proofs.extent.less_layers.Given as goal

abbrev pub invariant-loop-layer : goal.invariant-loop-layer
invariant-loop-layer g l = l.left - length (leaves (map view_layer (drop l.layer-index l.layers))) ≡ l.fn.number - length (leaves (map view_layer l.fn.layers))
