use Rattle.kit_words.proofs.Common.{ap, refl}
use Rattle.ring_parts.specs.Common.{rings_seen}
use Rattle.cover_report.specs.Filling.{polygon_segments}
use Rattle.cover_report.proofs.Filled.{all_came, fills_none, one_came}
use Rattle.cover_report.proofs.conflict.Filling.put_feature.Goals as goal

pub loop-rings-init : goal.loop-rings-init
loop-rings-init g c = fills_none c.args.self.now _ refl

pub loop-rings-preserved : goal.loop-rings-preserved
loop-rings-preserved g c =
    one_came polygon_segments (λ rings. rings_seen rings.items) c.args.polygons.now c.loop-rings.rings-index c.rings-item.result (rings_seen c.as_slice.result.now)
    c.args.self.now c.loop-rings.self c.put_polygon.new.self c.loop-rings-test.true c.rings-item.is (ap rings_seen c.as_slice.ensures.value)
    c.loop-rings.invariant c.in_ok-put_polygon.ensures

pub returns : goal.returns
returns g c =
    all_came polygon_segments (λ rings. rings_seen rings.items) c.args.polygons.now c.loop-rings.rings-index c.args.self.now c.loop-rings.self
    c.loop-rings-test.false c.loop-rings.invariant
