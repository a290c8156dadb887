use Rattle.feature_exchange.proofs.RingAround.{passed}
use Rattle.feature_exchange.proofs.ring_iter.skip.Goals as goal

pub loop-preserved : goal.loop-preserved
loop-preserved g c =
    passed c.args.keys.now c.loop.keys c.next.new.self c.loop.counter c.next.result c.next.ensures.steps c.loop.invariant
