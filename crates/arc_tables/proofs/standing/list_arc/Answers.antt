use Rattle.kit_words.proofs.Common.{◌≡◌, ◌<◌, ap, sym, ◌∙◌, subst, Contains, IfSome, length, arith, slice_index_or}
use Rattle.kit_words.proofs.Common.{slice_set, list_any, ◌==◌, false}
use Rattle.arc_tables.specs.Common.{stand_at, including}
use Rattle.arc_tables.proofs.StandLemmas.{stand_read, stand_set, lists_same, lists_including}
use Rattle.arc_tables.proofs.Writes.{including_new}
use Rattle.arc_tables.proofs.standing.list_arc.Goals as goal

pub returns-then-contains-clause-kept : goal.returns-then-contains-clause-kept
returns-then-contains-clause-kept g c = λ j m x.
    let ss = c.reach.new.stands.items in
    let i = c.index.result in
    let s = c.unwrap-stand.result.now in
    let l : i < length ss = omega (arith, c.in_ok-reach.ensures.ok, c.index.ensures, c.reach.new.stands.ok) in
    let was = stand_read ss i s l (subst (λ o. IfSome o (λ y. y.now ≡ slice_index_or ss i y.now)) c.unwrap-stand.ensures c.get_mut.ensures.value) in
    lists_same ss i s l (sym was) j m (subst (λ z. Contains z m) (sym (c.reach.ensures.kept j)) x)

pub returns-in_err-push-clause-kept : goal.returns-in_err-push-clause-kept
returns-in_err-push-clause-kept g c = λ j m x.
    let ss = c.reach.new.stands.items in
    let i = c.index.result in
    let s = c.unwrap-stand.result.now in
    let l : i < length ss = omega (arith, c.in_ok-reach.ensures.ok, c.index.ensures, c.reach.new.stands.ok) in
    let was = stand_read ss i s l (subst (λ o. IfSome o (λ y. y.now ≡ slice_index_or ss i y.now)) c.unwrap-stand.ensures c.get_mut.ensures.value) in
    lists_same ss i (record s { arcs = c.push.new.self }) l (ap (λ z. z.items) c.in_err-push.ensures.err ∙ sym was) j m (subst (λ z. Contains z m) (sym (c.reach.ensures.kept j)) x)

pub returns-clause-kept : goal.returns-clause-kept
returns-clause-kept g c = λ j m x.
    let ss = c.reach.new.stands.items in
    let i = c.index.result in
    let n = c.args.n in
    let s = c.unwrap-stand.result.now in
    let l : i < length ss = omega (arith, c.in_ok-reach.ensures.ok, c.index.ensures, c.reach.new.stands.ok) in
    let was = stand_read ss i s l (subst (λ o. IfSome o (λ y. y.now ≡ slice_index_or ss i y.now)) c.unwrap-stand.ensures c.get_mut.ensures.value) in
    let new : list_any (λ k. k == n) s.arcs.items ≡ false = ap (list_any (λ k. k == n)) (sym c.as_slice.ensures) ∙ sym c.contains.ensures.value ∙ c.if-contains.false in
    lists_including ss i n (record s { arcs = c.push.new.self }) l (c.in_ok-push.ensures.ok ∙ sym (including_new n s.arcs.items new) ∙ ap (including n) (sym was)) j m
    (subst (λ z. Contains z m) (sym (c.reach.ensures.kept j)) x)

pub returns-clause-listed : goal.returns-clause-listed
returns-clause-listed g c =
    let ss = c.reach.new.stands.items in
    let i = c.index.result in
    let n = c.args.n in
    let s = c.unwrap-stand.result.now in
    let v = record s { arcs = c.push.new.self } in
    let l : i < length ss = omega (arith, c.in_ok-reach.ensures.ok, c.index.ensures, c.reach.new.stands.ok) in
    let was = stand_read ss i s l (subst (λ o. IfSome o (λ y. y.now ≡ slice_index_or ss i y.now)) c.unwrap-stand.ensures c.get_mut.ensures.value) in
    let new : list_any (λ k. k == n) s.arcs.items ≡ false = ap (list_any (λ k. k == n)) (sym c.as_slice.ensures) ∙ sym c.contains.ensures.value ∙ c.if-contains.false in
    ap (stand_at (slice_set ss i v)) (sym c.index.ensures) ∙ stand_set ss i v l ∙ c.in_ok-push.ensures.ok ∙ sym (including_new n s.arcs.items new)
    ∙ ap (including n) (sym was ∙ ap (stand_at ss) c.index.ensures ∙ c.reach.ensures.kept c.args.k)
