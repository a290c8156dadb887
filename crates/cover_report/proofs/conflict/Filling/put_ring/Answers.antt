use Rattle.kit_words.proofs.Common.{ap, list_is, on_ok_weaker}
use Rattle.walk_faults.specs.Common.{walk_segments}
use Rattle.cover_report.proofs.Filled.{fills_alike, fills_both, way_end, way_step}
use Rattle.cover_report.proofs.conflict.Filling.put_ring.Goals as goal

pub loop-to-preserved : goal.loop-to-preserved
loop-to-preserved g c after left =
    c.loop-to.invariant after (fills_both c.loop-to.self c.put_edge.new.self after _ _ _ c.in_ok-put_edge.ensures left
    (way_step c.loop-to.from c.to-item.result _ _ c.loop-to.to-index c.loop-to-test.true c.to-item.is))

pub returns : goal.returns
returns g c =
    let first = c.first-item.result in
    let new = c.put_edge-2.new.self in
    on_ok_weaker c.put_edge-2.result
    (λ last. fills_alike c.args.self.now new _ _
    (c.loop-to.invariant new (fills_alike c.loop-to.self new _ _ last (way_end c.loop-to.from first _ c.loop-to.to-index c.loop-to-test.false)))
    (ap walk_segments (list_is c.args.ring.now first c.in-len1-up.len_at_least c.first-item.is)))
    c.put_edge-2.ensures
