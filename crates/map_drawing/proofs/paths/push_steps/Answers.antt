use Rattle.map_drawing.proofs.PathLemmas.{all_steps, one_step}
use Rattle.map_drawing.proofs.paths.push_steps.Goals as goal

pub loop-to-preserved : goal.loop-to-preserved
loop-to-preserved g c =
    one_step _ _ _ c.loop-to.from c.to-item.result c.args.points.now c.loop-to.to-index c.loop-to-test.true c.to-item.is
    c.loop-to.invariant c.in_ok-push_step.ensures

pub returns : goal.returns
returns g c = all_steps _ _ c.loop-to.from c.args.points.now c.loop-to.to-index c.loop-to-test.false c.loop-to.invariant
