use Rattle.kit_words.proofs.Common.{arith}
use Rattle.topo_outline.proofs.Placing.{layer_turn, layer_done}
use Rattle.topo_outline.proofs.places.places.Goals as goal

pub loop-layer-preserved : goal.loop-layer-preserved
loop-layer-preserved g c = layer_turn _ _ _ c.args.layers.now c.loop-layer.layer-index c.layer-item.result (omega arith) c.layer-item.is (rw c.as_slice.ensures.value at c.in_ok-push_places.ensures) c.loop-layer.invariant

pub returns : goal.returns
returns g c = layer_done _ _ c.args.layers.now c.loop-layer.layer-index (omega arith) c.loop-layer.invariant
