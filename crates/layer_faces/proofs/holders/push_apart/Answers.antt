use Rattle.kit_words.proofs.Common.{◌++◌}
use Rattle.layer_faces.specs.Kept.{apart}
use Rattle.layer_faces.proofs.Apart.{pushed_all, pushed_more}
use Rattle.layer_faces.proofs.holders.push_apart.Goals as goal

pub loop-n-preserved : goal.loop-n-preserved
loop-n-preserved g c =
    pushed_more c.args.some.now c.loop-n.found.items c.push_to.new.found.items c.loop-n.rest.now c.in_ok-rest.rest.now
    (c.args.found.now.items ++ apart c.args.some.now c.args.others.now) c.loop-n.n-index c.loop-n-test.true c.in_ok-rest.ensures c.loop-n.invariant

pub returns : goal.returns
returns g c =
    pushed_all c.args.some.now c.loop-n.found.items c.extend_from_slice.new.self.items c.loop-n.rest.now
    (c.args.found.now.items ++ apart c.args.some.now c.args.others.now) c.loop-n.n-index c.loop-n-test.false
    c.in_ok-extend_from_slice.ensures.items c.loop-n.invariant
