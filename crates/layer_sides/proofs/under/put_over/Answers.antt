use Rattle.layer_sides.proofs.Cutting.{over_more}
use Rattle.layer_sides.proofs.under.put_over.Goals as goal

pub loop-i-preserved : goal.loop-i-preserved
loop-i-preserved g c =
    over_more c.args.list.now.items c.loop-i.list.items c.args.begun.now c.args.at c.loop-i.i c.requires c.loop-i-test.true c.loop-i.invariant
