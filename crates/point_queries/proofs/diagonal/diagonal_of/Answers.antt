use Rattle.point_queries.proofs.BoxedRings.{one_more}
use Rattle.point_queries.proofs.diagonal.diagonal_of.Goals as goal

pub loop-p-preserved : goal.loop-p-preserved
loop-p-preserved c =
    one_more c.loop-p.diagonal c.widened-diagonal.result c.args.ring.now c.loop-p.p-index c.p-item.result
    c.loop-p-test.true c.p-item.is c.widened-diagonal.ensures c.loop-p.invariant
