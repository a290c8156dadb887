use Rattle.kit_words.proofs.Common.{◌<◌, ◌+◌, ◌∙◌, ◌++◌, List, length, map, sym, ap, subst, true, IfErr, length-map, rules}
use Rattle.kit_words.proofs.Common.{filter_same, err_from_is_err_and}
use Rattle.grid_geometry.specs.Common.{Segment, is_within}
use Rattle.segment_index.specs.Common.{Gives, times_by}
use Rattle.walk_faults.specs.Common.{FindFault, OnlyIfMany, touch_at, AreHeld, touching, touches_among}
use Rattle.walk_faults.proofs.Boxes.{box_at, within_meets}
use Rattle.walk_faults.proofs.Filled.{near_is}
use Rattle.walk_faults.proofs.Lists.{flat_next, flat_past}
use Rattle.walk_faults.proofs.Walking.{only_where}
use Rattle.walk_faults.proofs.meeting.touches.Goals as goal

pub loop-p-preserved : goal.loop-p-preserved
loop-p-preserved g c =
    let p = c.p-item.result in
    let held = g.I.SegIndex.held c.args.index.now in
    let times = times_by (g.I.SegIndex.cells c.args.index.now) in
    -- the closure only tests
    let kept = filter_same _ (is_within p) _ (λ t b f k. search rules) _ _ c.retain.ensures.filtered in
    record {
      found = λ ss h.
          flat_next (λ q. map (touch_at q) (touching q ss)) c.args.vertices.now c.loop-p.p-index p c.loop-p.found.items c.push_touches.new.out.items
          c.loop-p-test.true c.p-item.is (c.loop-p.invariant.found ss h)
          (c.in_ok-push_touches.ensures.pushed
          ∙ ap (λ ts. c.loop-p.found.items ++ map (touch_at p) ts)
          (c.as_slice.ensures.value
          ∙ near_is held times (box_at p) (is_within p) c.new-near.result.items c.candidates.new.out.items c.retain.new.self.items c.sort_segments.new.segments.items ss
          c.new-near.ensures.items (subst (λ r. Gives held times r c.new-near.result.items c.candidates.new.out.items true) c.box_at.ensures c.in_ok-candidates.ensures)
          kept c.sort_segments.ensures h (within_meets p)));
      few = c.in_ok-push_touches.ensures.few c.loop-p.invariant.few;
    }

pub returns-in_err-push_touches-clause-fault : goal.returns-in_err-push_touches-clause-fault
returns-in_err-push_touches-clause-fault g c =
    let most = c.args.most in
    let ps = c.args.vertices.now in
    let p = c.p-item.result in
    let held = g.I.SegIndex.held c.args.index.now in
    let times = times_by (g.I.SegIndex.cells c.args.index.now) in
    let kept = filter_same _ (is_within p) _ (λ t b f k. search rules) _ _ c.retain.ensures.filtered in
    let Here : FindFault → Type 0 = λ fault. (ss : List Segment) → AreHeld held ss → OnlyIfMany (most < length (touches_among ps ss)) fault in
    let k : Here c.in_err-push_touches.field-0.0 = λ ss h.
    only_where (most < length c.loop-p.found.items + length c.as_slice.result.now) (most < length (touches_among ps ss)) c.in_err-push_touches.field-0.0
    (λ more. flat_past (λ q. map (touch_at q) (touching q ss)) ps c.loop-p.p-index p c.loop-p.found.items (length c.as_slice.result.now) most
    c.loop-p-test.true c.p-item.is (c.loop-p.invariant.found ss h)
    (ap length
    (c.as_slice.ensures.value
    ∙ near_is held times (box_at p) (is_within p) c.new-near.result.items c.candidates.new.out.items c.retain.new.self.items c.sort_segments.new.segments.items ss
    c.new-near.ensures.items (subst (λ r. Gives held times r c.new-near.result.items c.candidates.new.out.items true) c.box_at.ensures c.in_ok-candidates.ensures)
    kept c.sort_segments.ensures h (within_meets p))
    ∙ sym (length-map (touching p ss) (touch_at p))) more)
    c.in_err-push_touches.ensures.fault in
    let r = err_from_is_err_and c.from_residual-in_err-push_touches.result c.from_residual-in_err-push_touches.ensures.1 in
    subst (λ z. IfErr z Here) (sym r.1) (subst Here (sym r.2) k)
