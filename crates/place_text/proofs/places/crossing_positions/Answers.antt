use Rattle.place_text.proofs.Crossed.{crossings_more, one_crosses}
use Rattle.place_text.proofs.places.crossing_positions.Goals as goal

pub rounded_crossing-requires : goal.rounded_crossing-requires
rounded_crossing-requires g c = one_crosses c.args.pairs.now c.loop-pair.pair-index c.pair-item.result c.loop-pair-test.true c.pair-item.is c.requires

pub loop-pair-preserved : goal.loop-pair-preserved
loop-pair-preserved g c =
    crossings_more c.args.pairs.now c.loop-pair.pair-index c.pair-item.result c.loop-pair.positions.items c.push.new.self.items c.rounded_crossing.result
    c.loop-pair-test.true c.pair-item.is c.loop-pair.invariant c.rounded_crossing.ensures c.in_ok-push.ensures.items
