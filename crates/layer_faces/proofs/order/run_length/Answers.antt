use Rattle.kit_words.proofs.Common.{◌≡◌, ◌-◌, arith, length, get_or, take, drop, All-more, get_or_default, list_is}
use Rattle.layer_faces.specs.declared.order.Labelled.{Labelled}
use Rattle.layer_faces.proofs.Ascending.{run_same}
use Rattle.layer_faces.proofs.order.run_length.Goals as goal

pub returns-then-next-first-clause-same : goal.returns-then-next-first-clause-same
returns-then-next-first-clause-same c =
    let order = c.args.order.now in
    let first = get_or order 0 (record { label = 0; side = 0 }) in
    run_same order (take (length order - 1) (drop 1 order)) first c.loop-next.next-index c.loop-next.count
    (list_is order first c.in-len1-up.len_at_least (get_or_default order 0 (record { label = 0; side = 0 }) first (omega (arith, c.in-len1-up.len_at_least))))
    c.loop-next.invariant.place c.loop-next.invariant.same

pub loop-next-preserved : goal.loop-next-preserved
loop-next-preserved c =
    let order = c.args.order.now in
    let first = get_or order 0 (record { label = 0; side = 0 }) in
    record {
      place = omega (arith, c.loop-next.invariant.place);
      same = All-more (λ (next : Labelled). next.label ≡ first.label) (take (length order - 1) (drop 1 order)) c.loop-next.next-index
          (record { label = 0; side = 0 }) c.loop-next-test.true c.loop-next.invariant.same c.if-next-first.false;
    }

pub returns-clause-same : goal.returns-clause-same
returns-clause-same c =
    let order = c.args.order.now in
    let first = get_or order 0 (record { label = 0; side = 0 }) in
    run_same order (take (length order - 1) (drop 1 order)) first c.loop-next.next-index c.loop-next.count
    (list_is order first c.in-len1-up.len_at_least (get_or_default order 0 (record { label = 0; side = 0 }) first (omega (arith, c.in-len1-up.len_at_least))))
    c.loop-next.invariant.place c.loop-next.invariant.same
