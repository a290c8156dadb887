use Rattle.place_text.specs.Common.{touch_place}
use Rattle.place_text.proofs.Numbered.{one_more}
use Rattle.place_text.proofs.places.push_touches.Goals as goal

pub loop-number-preserved : goal.loop-number-preserved
loop-number-preserved g c =
    one_more touch_place c.args.touches.now c.loop-number.number c.index-touches-number.result c.args.places.now.items c.loop-number.places.items c.push.new.self.items
    c.loop-number-test.true c.index-touches-number.is c.loop-number.invariant c.in_ok-push.ensures.items
