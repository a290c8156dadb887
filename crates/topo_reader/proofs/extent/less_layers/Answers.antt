use Rattle.kit_words.proofs.Common.{arith}
use Rattle.topo_outline.specs.Common.{view_layer}
use Rattle.topo_reader.proofs.Leaves.{layer_turn, layer_done}
use Rattle.topo_reader.proofs.extent.less_layers.Goals as goal

pub loop-layer-preserved : goal.loop-layer-preserved
loop-layer-preserved g c = layer_turn view_layer _ _ _ c.args.layers.now c.loop-layer.layer-index c.layer-item.result (omega arith) c.layer-item.is (rw c.as_slice.ensures.value at c.less_items-left.ensures) c.loop-layer.invariant

pub returns : goal.returns
returns g c = layer_done view_layer _ _ c.args.layers.now c.loop-layer.layer-index (omega arith) c.loop-layer.invariant
