use Rattle.kit_words.proofs.Common.{subst, on_ok_weaker}
use Rattle.segment_index.proofs.Common.{contains_inserted}
use Rattle.point_queries.specs.Common.{StaysHeld}
use Rattle.point_queries.proofs.BoxesHold.{added_stays}
use Rattle.point_queries.proofs.ring_boxes.RingBoxes.hold.Goals as goal

pub returns-clause-held : goal.returns-clause-held
returns-clause-held g c = on_ok_weaker c.add.result (contains_inserted c.add.new.self c.self.inside.index c.args.d) c.add.ensures.added

pub returns-clause-stays : goal.returns-clause-stays
returns-clause-stays g c =
    subst (λ old. StaysHeld old c.add.new.self) c.self.view_is
    (added_stays c.add.result c.self.inside.index c.add.new.self c.args.d c.add.ensures.added c.add.ensures.unchanged)
