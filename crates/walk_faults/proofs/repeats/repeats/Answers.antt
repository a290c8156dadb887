use Rattle.kit_words.proofs.Common.{◌<◌, ◌+◌, ◌∙◌, length, map, sym, ap, subst, IfErr, length-map, err_from_is_err_and}
use Rattle.walk_faults.specs.Common.{OnlyIfMany, repeat_at, repeated, all_repeats, walk_seen}
use Rattle.walk_faults.proofs.Walking.{only_where, repeats_past}
use Rattle.walk_faults.proofs.repeats.repeats.Goals as goal

pub returns-in_err-push_repeats-clause-fault : goal.returns-in_err-push_repeats-clause-fault
returns-in_err-push_repeats-clause-fault g c =
    let most = c.args.most in
    let walks = c.args.walks.now in
    let w = c.walk-item.result in
    let Many = most < length (all_repeats (map walk_seen walks)) in
    let k = only_where (most < length c.loop-walk.found.items + length c.as_slice.result.now) Many c.in_err-push_repeats.field-0.0
    (λ more. repeats_past walks c.loop-walk.walk-index w c.loop-walk.found.items (length c.as_slice.result.now) most
    c.loop-walk-test.true c.walk-item.is c.loop-walk.invariant.found
    (ap length (c.as_slice.ensures.value ∙ c.in_ok-positions.ensures) ∙ sym (length-map (repeated w.positions.now) (repeat_at w.at))) more)
    c.in_err-push_repeats.ensures.fault in
    let r = err_from_is_err_and c.from_residual-in_err-push_repeats.result c.from_residual-in_err-push_repeats.ensures.1 in
    subst (λ z. IfErr z (OnlyIfMany Many)) (sym r.1) (subst (OnlyIfMany Many) (sym r.2) k)
