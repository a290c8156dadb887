use Rattle.kit_words.proofs.Common.{subst, true, None}
use Rattle.segment_index.specs.Common.{Gives, times_by}
use Rattle.point_queries.specs.Common.{AreBoxesOf}
use Rattle.point_queries.proofs.BoxesHold.{given_boxes}
use Rattle.point_queries.proofs.ring_boxes.RingBoxes.boxes_of.Goals as goal

pub returns : goal.returns
returns g c =
    subst (λ boxes. AreBoxesOf boxes c.args.p c.candidates.new.out.items) c.self.view_is
    (given_boxes c.self.inside.index c.args.p c.new-near.result.items c.candidates.new.out.items c.new-near.ensures.items
    (subst (λ r. Gives c.self.inside.index (times_by None) r c.new-near.result.items c.candidates.new.out.items true)
    c.box_at.ensures c.in_ok-candidates.ensures))
