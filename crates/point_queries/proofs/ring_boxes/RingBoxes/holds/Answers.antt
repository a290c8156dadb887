use Rattle.kit_words.proofs.Common.{ap, subst, ◌∙◌, list_any}
use Rattle.grid_geometry.specs.Common.{Segment, segment_eq}
use Rattle.point_queries.specs.Common.{AreBoxesOf}
use Rattle.point_queries.proofs.BoxesHold.{held_among}
use Rattle.point_queries.proofs.ring_boxes.RingBoxes.holds.Goals as goal

pub returns : goal.returns
returns g c =
    let near = c.in_ok-near.near.items in
    c.contains.ensures.value ∙ ap (list_any (λ t. segment_eq t c.args.d)) c.as_slice.ensures.value
    ∙ held_among c.args.self.now c.args.d near
    (subst (λ (d : Segment). AreBoxesOf c.args.self.now d.lo near) c.d.view_is c.in_ok-near.ensures)
