use Rattle.kit_words.proofs.Common.{◌<◌, ◌≤◌, length, map, sym, subst, IfErr, err_from_is_err_and}
use Rattle.walk_faults.specs.Common.{OnlyIfMany, short_walks, walk_seen}
use Rattle.walk_faults.proofs.Walking.{short_past, only_where}
use Rattle.walk_faults.proofs.repeats.short.Goals as goal

pub returns-in_err-push_at_most-clause-fault : goal.returns-in_err-push_at_most-clause-fault
returns-in_err-push_at_most-clause-fault g c =
    let Many = c.args.most < length (short_walks (map walk_seen c.args.walks.now)) in
    let k = only_where (c.args.most ≤ length c.loop-walk.found.items) Many c.in_err-push_at_most.field-0.0
    (λ full. short_past c.args.walks.now c.loop-walk.walk-index c.walk-item.result c.args.most c.loop-walk-test.true c.walk-item.is c.if-walk-lt-LEAST.true
    (subst (λ found. c.args.most ≤ length found) c.loop-walk.invariant.found full))
    c.in_err-push_at_most.ensures.fault in
    let p = err_from_is_err_and c.from_residual.result c.from_residual.ensures.1 in
    subst (λ r. IfErr r (OnlyIfMany Many)) (sym p.1) (subst (OnlyIfMany Many) (sym p.2) k)
