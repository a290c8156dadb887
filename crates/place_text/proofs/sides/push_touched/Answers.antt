use Rattle.place_text.specs.Common.{touch_side}
use Rattle.place_text.proofs.Numbered.{one_more}
use Rattle.place_text.proofs.sides.push_touched.Goals as goal

pub loop-number-preserved : goal.loop-number-preserved
loop-number-preserved g c =
    one_more touch_side c.args.touches.now c.loop-number.number c.index-touches-number.result c.args.sides.now.items c.loop-number.sides.items c.push.new.self.items
    c.loop-number-test.true c.index-touches-number.is c.loop-number.invariant c.in_ok-push.ensures.items
