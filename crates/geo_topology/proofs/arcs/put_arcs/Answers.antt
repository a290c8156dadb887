use Rattle.kit_words.proofs.Common.{arith, refl}
use Rattle.geo_topology.proofs.Texts.{arc_turn, arc_end, with_comma}
use Rattle.geo_topology.proofs.arcs.put_arcs.Goals as goal

pub loop-ring-preserved : goal.loop-ring-preserved
loop-ring-preserved g c = arc_turn _ _ _ _ c.args.rings.now c.loop-ring.ring-index c.ring-item.result _ (omega arith) c.ring-item.is (with_comma _ _ _ c.in_ok-put_comma.ensures.text (rw c.in_ok-put_comma.ensures.parts refl)) c.in_ok-copy.ensures c.loop-ring.invariant

pub returns : goal.returns
returns g c = arc_end _ _ c.args.rings.now c.loop-ring.ring-index _ (omega arith) c.loop-ring.invariant
