use Rattle.topo_reader.proofs.PlainArcs.{turn, end, step_shorter}
use Rattle.topo_reader.proofs.plain_arc.plain_positions.Goals as goal

pub loop-more-smaller : goal.loop-more-smaller
loop-more-smaller g c = step_shorter _ _ _ c.loop-more.left.now _ _ c.loop-more-test.true c.in-Some.ensures

pub loop-more-preserved : goal.loop-more-preserved
loop-more-preserved g c = rw (c.before_next-before.ensures) (turn _ _ _ _ _ _ _ c.loop-more.left.now _ _ c.loop-more-test.true c.in-Some.ensures c.in_ok-push.ensures.items c.loop-more.invariant)

pub returns : goal.returns
returns g c = end _ _ _ _ _ _ c.loop-more-test.false c.loop-more.invariant
