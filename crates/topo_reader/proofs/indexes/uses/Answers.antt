use Rattle.kit_words.proofs.Common.{arith, map, map-append}
use Rattle.topo_outline.specs.Common.{view_place}
use Rattle.topo_outline.proofs.Common.{each_drop_turn}
use Rattle.topo_reader.specs.Common.{uses_of, positions_of}
use Rattle.topo_reader.proofs.indexes.uses.Goals as goal

pub loop-place-preserved : goal.loop-place-preserved
unfolding uses_of
loop-place-preserved g c = rw (c.in_ok-push.ensures.items, map-append) (each_drop_turn (uses_of (map positions_of c.args.arcs.now)) view_place _ _ c.args.places.now c.loop-place.place-index c.place-item.result _ (omega arith) c.place-item.is c.in-Ok.ensures c.loop-place.invariant)
