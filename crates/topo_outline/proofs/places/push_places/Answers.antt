use Rattle.kit_words.proofs.Common.{arith}
use Rattle.topo_outline.proofs.Placing.{leaf_turn, leaf_done}
use Rattle.topo_outline.proofs.places.push_places.Goals as goal

pub loop-item-preserved : goal.loop-item-preserved
loop-item-preserved g c = leaf_turn _ _ _ c.args.items.now c.loop-item.item-index c.item-item.result (omega arith) c.item-item.is (rw c.place_of.ensures at c.in_ok-push_place.ensures) c.loop-item.invariant

pub returns : goal.returns
returns g c = leaf_done _ _ c.args.items.now c.loop-item.item-index (omega arith) c.loop-item.invariant
