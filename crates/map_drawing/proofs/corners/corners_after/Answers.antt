use Rattle.map_drawing.proofs.PathLemmas.{all_corners, corners_begun, one_corner}
use Rattle.map_drawing.proofs.corners.corners_after.Goals as goal

pub loop-to-init : goal.loop-to-init
loop-to-init g c =
    corners_begun _ _ c.args.others.now c.args.first c.second-item.result c.new-kept.ensures.items c.in_ok-push.ensures.items
    c.in-len1-up.len_at_least c.second-item.is

pub loop-to-preserved : goal.loop-to-preserved
loop-to-preserved g c =
    one_corner _ _ _ c.loop-to.from c.loop-to.at c.to-item.result _ c.loop-to.to-index c.loop-to-test.true c.to-item.is
    c.loop-to.invariant c.in_ok-push_corner.ensures

pub returns : goal.returns
returns g c =
    all_corners _ _ _ c.loop-to.from c.loop-to.at _ c.loop-to.to-index c.loop-to-test.false c.in_ok-push-2.ensures.items c.loop-to.invariant
