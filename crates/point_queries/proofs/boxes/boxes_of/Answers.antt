use Rattle.kit_words.proofs.Common.{arith}
use Rattle.point_queries.proofs.RingsCovered.{next_number, all_covered}
use Rattle.point_queries.proofs.boxes.boxes_of.Goals as goal

pub loop-n-preserved : goal.loop-n-preserved
loop-n-preserved g c =
    next_number c.args.map.now.doc c.loop-n.n c.loop-n.boxes c.add_boxes.new.boxes c.add_boxes.ensures.keeps
    c.in_ok-add_boxes.ensures.covered c.loop-n.invariant

pub returns : goal.returns
returns g c =
    all_covered c.args.map.now.doc c.args.map.now.next c.loop-n.n c.loop-n.boxes c.frame.ensures.formed
    (omega (arith, c.loop-n-test.false, c.next_number-n-end.ensures.next))
    c.next_number-n-end.ensures.below c.loop-n.invariant
