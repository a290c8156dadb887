use Rattle.place_text.proofs.Telling.{walk_step}
use Rattle.place_text.proofs.tables.tell_walk.Goals as goal

pub loop-to-preserved : goal.loop-to-preserved
loop-to-preserved g c = λ end left.
    c.loop-to.invariant end
    (walk_step c.args.feature c.loop-to.from c.to-item.result c.first-item.result _ c.loop-to.to-index c.loop-to.tables c.tell_edge.new.tables end
    c.loop-to-test.true c.to-item.is c.in_ok-tell_edge.ensures left)
