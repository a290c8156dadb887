use Rattle.kit_words.proofs.Common.{◌∙◌, ap, subst}
use Rattle.grid_geometry.specs.Common.{box_of}
use Rattle.segment_index.specs.Common.{box_around}
use Rattle.point_queries.specs.Common.{box_at, IsLeast}
use Rattle.point_queries.proofs.BoxesAround.{least_none, least_more}
use Rattle.point_queries.proofs.diagonal.around.Goals as goal

pub loop-d-init : goal.loop-d-init
loop-d-init c = rw c.box_at-rect.ensures (least_none (box_at c.args.p))

pub loop-d-preserved : goal.loop-d-preserved
loop-d-preserved c =
    least_more (box_at c.args.p) c.args.boxes.now c.loop-d.d-index c.d-item.result c.loop-d.rect c.widen.new.bounds
    c.loop-d-test.true c.d-item.is (c.widen.ensures ∙ ap (box_around c.loop-d.rect) c.rect.ensures) c.loop-d.invariant
