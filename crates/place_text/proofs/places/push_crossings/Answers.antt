use Rattle.place_text.specs.Common.{crossing_place}
use Rattle.place_text.proofs.Numbered.{one_more}
use Rattle.place_text.proofs.places.push_crossings.Goals as goal

pub loop-number-preserved : goal.loop-number-preserved
loop-number-preserved g c =
    one_more crossing_place c.args.crossings.now c.loop-number.number c.index-crossings-number.result c.args.places.now.items c.loop-number.places.items c.push.new.self.items
    c.loop-number-test.true c.index-crossings-number.is c.loop-number.invariant c.in_ok-push.ensures.items
