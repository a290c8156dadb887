use Rattle.point_queries.proofs.BoxesHold.{item_has, next_widened}
use Rattle.point_queries.proofs.ring_boxes.RingBoxes.widen_all.Goals as goal

pub widen-requires : goal.widen-requires
widen-requires g c =
    c.loop-d.invariant.stays c.d-item.result
    (c.requires c.d-item.result (item_has c.args.boxes.now c.loop-d.d-index c.d-item.result c.loop-d-test.true c.d-item.is))

pub loop-d-preserved : goal.loop-d-preserved
loop-d-preserved g c = record {
  widened = next_widened c.args.boxes.now c.loop-d.d-index c.d-item.result c.args.p c.loop-d.self c.widen.new.self
      c.loop-d-test.true c.d-item.is c.widen.ensures.stays c.in_ok-widen.ensures.widened c.loop-d.invariant.widened;
  stays = λ t h. c.widen.ensures.stays t (c.loop-d.invariant.stays t h);
}
