use Rattle.point_queries.proofs.BoxesAround.{around_boxes}
use Rattle.point_queries.proofs.ring_boxes.RingBoxes.around.Goals as goal

pub returns : goal.returns
returns g c = around_boxes c.args.self.now c.args.p c.in_ok-near.near.items c.around.result c.in_ok-near.ensures (rw c.as_slice.ensures.value at c.around.ensures)
