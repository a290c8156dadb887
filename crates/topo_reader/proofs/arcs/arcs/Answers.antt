use Rattle.kit_words.proofs.Common.{map-append}
use Rattle.topo_outline.proofs.Common.{each_turn}
use Rattle.topo_reader.specs.Common.{arc}
use Rattle.topo_reader.proofs.arcs.arcs.Goals as goal

pub loop-part-preserved : goal.loop-part-preserved
loop-part-preserved g c = rw (c.in_ok-push.ensures.items, map-append) (each_turn (arc c.args.delta) _ _ _ _ _ _ c.in-Some-part.ensures.steps c.in-Ok.ensures c.loop-part.invariant)
