use Rattle.kit_words.proofs.Common.{refl}
use Rattle.walk_faults.specs.Common.{walk_segments}
use Rattle.cover_report.proofs.Filled.{all_came, fills_none, one_came}
use Rattle.cover_report.proofs.conflict.Filling.put_polygon.Goals as goal

pub loop-ring-init : goal.loop-ring-init
loop-ring-init g c = fills_none c.args.self.now _ refl

pub loop-ring-preserved : goal.loop-ring-preserved
loop-ring-preserved g c =
    one_came walk_segments (λ ring. ring.items) c.args.rings.now c.loop-ring.ring-index c.ring-item.result c.as_slice.result.now
    c.args.self.now c.loop-ring.self c.put_ring.new.self c.loop-ring-test.true c.ring-item.is c.as_slice.ensures.value c.loop-ring.invariant c.in_ok-put_ring.ensures

pub returns : goal.returns
returns g c =
    all_came walk_segments (λ ring. ring.items) c.args.rings.now c.loop-ring.ring-index c.args.self.now c.loop-ring.self c.loop-ring-test.false c.loop-ring.invariant
