use Rattle.ring_store.proofs.PuttingBack.{apart_at}
use Rattle.ring_store.proofs.changes.exchanged_segments.Goals as goal

pub push_segment-requires : goal.push_segment-requires
push_segment-requires g c =
    (apart_at c.args.removals.now c.requires c.loop-r.r-index c.r-item.result c.loop-r-test.true c.r-item.is).1

pub push_segment-requires-in-loop-r : goal.push_segment-requires-in-loop-r
push_segment-requires-in-loop-r g c =
    (apart_at c.args.removals.now c.requires c.loop-r.r-index c.r-item.result c.loop-r-test.true c.r-item.is).2

pub push_segment-requires-in-loop-r-2 : goal.push_segment-requires-in-loop-r-2
push_segment-requires-in-loop-r-2 g c =
    (apart_at c.args.removals.now c.requires c.loop-r.r-index c.r-item.result c.loop-r-test.true c.r-item.is).0
