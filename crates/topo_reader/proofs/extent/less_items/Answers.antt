use Rattle.kit_words.proofs.Common.{arith}
use Rattle.topo_outline.specs.Common.{view_item}
use Rattle.topo_reader.proofs.Leaves.{item_turn, item_done}
use Rattle.topo_reader.proofs.extent.less_items.Goals as goal

pub loop-item-preserved : goal.loop-item-preserved
loop-item-preserved g c = item_turn view_item _ _ _ _ c.args.items.now c.loop-item.item-index c.item-item.result (omega arith) c.item-item.is c.features_in.ensures c.saturating_sub-left.ensures c.loop-item.invariant

pub returns : goal.returns
returns g c = item_done view_item _ _ c.args.items.now c.loop-item.item-index (omega arith) c.loop-item.invariant
