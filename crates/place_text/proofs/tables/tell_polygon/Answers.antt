use Rattle.kit_words.proofs.Common.{subst}
use Rattle.walk_faults.specs.Common.{walk_segments}
use Rattle.place_text.specs.Common.{Tells}
use Rattle.place_text.proofs.Telling.{level_step}
use Rattle.place_text.proofs.tables.tell_polygon.Goals as goal

pub loop-ring-preserved : goal.loop-ring-preserved
loop-ring-preserved g c =
    level_step c.args.feature (λ walk. walk) walk_segments (λ ring. ring.items) c.args.rings.now c.loop-ring.ring-index c.ring-item.result
    c.args.tables.now c.loop-ring.tables c.tell_walk.new.tables c.loop-ring-test.true c.ring-item.is c.loop-ring.invariant
    (subst (λ walk. Tells c.args.feature walk (walk_segments walk) c.loop-ring.tables c.tell_walk.new.tables) c.as_slice.ensures.value c.in_ok-tell_walk.ensures)
