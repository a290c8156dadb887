use Rattle.map_drawing.proofs.PathLemmas.{all_apart, apart_begun, one_apart}
use Rattle.map_drawing.proofs.corners.apart.Goals as goal

pub loop-point-init : goal.loop-point-init
loop-point-init g c =
    apart_begun _ _ c.args.ring.now c.first-item.result c.new-kept.ensures.items c.in_ok-push.ensures.items c.in-len1-up.len_at_least
    c.first-item.is

pub loop-point-preserved : goal.loop-point-preserved
loop-point-preserved g c =
    one_apart _ _ _ c.loop-point.before c.point-item.result _ c.loop-point.point-index c.loop-point-test.true c.point-item.is
    c.loop-point.invariant c.in_ok-push_apart.ensures

pub returns : goal.returns
returns g c = all_apart _ _ c.loop-point.before _ c.loop-point.point-index c.loop-point-test.false c.loop-point.invariant
