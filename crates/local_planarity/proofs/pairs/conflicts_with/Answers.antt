use Rattle.kit_words.proofs.Common.{◌≡◌, ◌∙◌, ◌&&◌, ap, arith, length, not, rules, subst, sym, take, true, take_all}
use Rattle.grid_geometry.specs.Common.{box_of, boxes_meet}
use Rattle.local_planarity.specs.Common.{goes_away, is_tried, tests_to_conflict, tried}
use Rattle.local_planarity.proofs.Counts.{any_found, all_tested, tested_up_to}
use Rattle.local_planarity.proofs.pairs.conflicts_with.Goals as goal

-- the one that conflicts is the last that is tested
pub returns-then-test : goal.returns-then-test
returns-then-test c =
    let s = c.args.s in
    let leaving = c.args.leaving.now in
    let t = c.t-item.result in
    let passes : is_tried leaving s t ≡ true =
    ap (λ r. boxes_meet (box_of t) r && not (goes_away leaving t)) (sym c.rect-rect.ensures) ∙ sym c.is_tried.ensures ∙ c.if-is_tried.true in
    let hit = sym c.if-test.ensures.conflict in
    let tested = tested_up_to (is_tried leaving s) s c.args.others.now c.loop-t.t-index t c.loop-t-test.true c.t-item.is passes c.loop-t.invariant.none hit in
    record {
      some = any_found (is_tried leaving s) s c.args.others.now c.loop-t.t-index t c.loop-t-test.true c.t-item.is passes c.loop-t.invariant.none hit;
      few = omega (arith, c.loop-t.invariant.few, c.test.ensures.counted, tested);
      counted = omega (arith, c.loop-t.invariant.counted, c.test.ensures.counted, tested);
    }

-- where none does, all are tested
pub returns : goal.returns
returns c =
    let near = tried c.args.leaving.now c.args.s (take c.loop-t.t-index c.args.others.now) in
    let all = ap (tried c.args.leaving.now c.args.s) (take_all c.loop-t.t-index c.args.others.now c.loop-t-test.false) in
    let tested : tests_to_conflict c.args.s (tried c.args.leaving.now c.args.s c.args.others.now) ≡ length near =
    subst (λ ts. tests_to_conflict c.args.s ts ≡ length near) all (all_tested c.args.s near c.loop-t.invariant.none) in
    record {
      some = search rules;
      few = omega (arith, c.loop-t.invariant.few, tested);
      counted = omega (arith, c.loop-t.invariant.counted, tested);
    }
