use Rattle.topo_reader.proofs.Summing.{turn, end, fails_stop}
use Rattle.topo_reader.proofs.arcs.positions.Goals as goal

pub loop-part-preserved : goal.loop-part-preserved
loop-part-preserved g c = rw (c.in_ok-push.ensures.items, c.before_next-before.ensures) (turn _ _ _ _ _ _ _ _ c.in-Some.ensures.steps c.in-Ok.ensures c.loop-part.invariant)

pub returns-in-Err : goal.returns-in-Err
returns-in-Err g c = fails_stop c.in-Err.fault _ _ _ _ _ _ _ c.in-Some.ensures.steps c.in-Err.ensures c.loop-part.invariant

pub returns : goal.returns
returns g c = end _ _ _ _ _ c.in-None.ensures.steps.0 c.loop-part.invariant
