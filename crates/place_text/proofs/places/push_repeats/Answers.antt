use Rattle.place_text.specs.Common.{repeat_place}
use Rattle.place_text.proofs.Numbered.{one_more}
use Rattle.place_text.proofs.places.push_repeats.Goals as goal

pub loop-number-preserved : goal.loop-number-preserved
loop-number-preserved g c =
    one_more repeat_place c.args.repeats.now c.loop-number.number c.index-repeats-number.result c.args.places.now.items c.loop-number.places.items c.push.new.self.items
    c.loop-number-test.true c.index-repeats-number.is c.loop-number.invariant c.in_ok-push.ensures.items
