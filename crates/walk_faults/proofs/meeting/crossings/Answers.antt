use Rattle.kit_words.proofs.Common.{◌<◌, ◌+◌, ◌∙◌, ◌++◌, ◌&&◌, length, map, sym, ap, subst, true, IfErr, length-map, rules}
use Rattle.kit_words.proofs.Common.{filter_same, err_from_is_err_and}
use Rattle.grid_geometry.specs.Common.{cross, box_of, segment_lt}
use Rattle.segment_index.specs.Common.{Gives, times_by}
use Rattle.walk_faults.specs.Common.{OnlyIfMany, crossing_at, crossing, crossings_among}
use Rattle.walk_faults.proofs.Boxes.{crossing_meets}
use Rattle.walk_faults.proofs.Filled.{near_is}
use Rattle.walk_faults.proofs.Lists.{flat_next, flat_past}
use Rattle.walk_faults.proofs.Walking.{only_where}
use Rattle.walk_faults.proofs.meeting.crossings.Goals as goal

pub loop-s-preserved : goal.loop-s-preserved
loop-s-preserved g c =
    let ss = c.args.segments.now in
    let s = c.s-item.result in
    let held = g.I.SegIndex.held c.args.index.now in
    let times = times_by (g.I.SegIndex.cells c.args.index.now) in
    -- the closure only tests
    let kept = filter_same _ (λ t. segment_lt s t && cross s t) _ (λ t b f k. search rules) _ _ c.retain.ensures.filtered in
    record {
      found =
          flat_next (λ t. map (crossing_at t) (crossing t ss)) ss c.loop-s.s-index s c.loop-s.found.items c.push_crossings.new.out.items
          c.loop-s-test.true c.s-item.is c.loop-s.invariant.found
          (c.in_ok-push_crossings.ensures.pushed
          ∙ ap (λ ts. c.loop-s.found.items ++ map (crossing_at s) ts)
          (c.as_slice.ensures.value
          ∙ near_is held times (box_of s) (λ t. segment_lt s t && cross s t) c.new-near.result.items c.candidates.new.out.items c.retain.new.self.items c.sort_segments.new.segments.items ss
          c.new-near.ensures.items (subst (λ r. Gives held times r c.new-near.result.items c.candidates.new.out.items true) c.rect.ensures c.in_ok-candidates.ensures)
          kept c.sort_segments.ensures c.requires (crossing_meets s)));
      few = c.in_ok-push_crossings.ensures.few c.loop-s.invariant.few;
    }

pub returns-in_err-push_crossings-clause-fault : goal.returns-in_err-push_crossings-clause-fault
returns-in_err-push_crossings-clause-fault g c =
    let most = c.args.most in
    let ss = c.args.segments.now in
    let s = c.s-item.result in
    let held = g.I.SegIndex.held c.args.index.now in
    let times = times_by (g.I.SegIndex.cells c.args.index.now) in
    let kept = filter_same _ (λ t. segment_lt s t && cross s t) _ (λ t b f k. search rules) _ _ c.retain.ensures.filtered in
    let Many = most < length (crossings_among ss ss) in
    let k = only_where (most < length c.loop-s.found.items + length c.as_slice.result.now) Many c.in_err-push_crossings.field-0.0
    (λ more. flat_past (λ t. map (crossing_at t) (crossing t ss)) ss c.loop-s.s-index s c.loop-s.found.items (length c.as_slice.result.now) most
    c.loop-s-test.true c.s-item.is c.loop-s.invariant.found
    (ap length
    (c.as_slice.ensures.value
    ∙ near_is held times (box_of s) (λ t. segment_lt s t && cross s t) c.new-near.result.items c.candidates.new.out.items c.retain.new.self.items c.sort_segments.new.segments.items ss
    c.new-near.ensures.items (subst (λ r. Gives held times r c.new-near.result.items c.candidates.new.out.items true) c.rect.ensures c.in_ok-candidates.ensures)
    kept c.sort_segments.ensures c.requires (crossing_meets s))
    ∙ sym (length-map (crossing s ss) (crossing_at s))) more)
    c.in_err-push_crossings.ensures.fault in
    let r = err_from_is_err_and c.from_residual-in_err-push_crossings.result c.from_residual-in_err-push_crossings.ensures.1 in
    subst (λ z. IfErr z (OnlyIfMany Many)) (sym r.1) (subst (OnlyIfMany Many) (sym r.2) k)
