use Rattle.kit_words.proofs.Common.{◌+◌, subst, sym, ap, ◌∙◌, Contains, map, length, true, false, arith}
use Rattle.arc_tables.specs.Common.{links, times, onto, IsPlace}
use Rattle.arc_tables.proofs.Removing.{removed_at, removed_after, in_removed, moved_links}
use Rattle.arc_tables.proofs.editing.draw_in.Goals as goal

pub returns-in-Some-default-true-clause-edges : goal.returns-in-Some-default-true-clause-edges
returns-in-Some-default-true-clause-edges g c =
    let w = c.in-Some-default-true in
    let place = subst (λ z. IsPlace z w.at true c.args.p c.args.b) c.as_slice.ensures.value (subst (λ t. IsPlace c.as_slice.result.now w.at t c.args.p c.args.b) w.field-0-1-test w.ensures.some) in
    ap (λ z. links (map (onto c.args.p c.args.b) z)) c.remove.ensures.items ∙ removed_after c.args.p c.args.b w.at c.args.path.now.items place c.requires

pub returns-in-Some-default-true-clause-keys : goal.returns-in-Some-default-true-clause-keys
returns-in-Some-default-true-clause-keys g c = λ k m. in_removed c.args.path.now.items (c.in-Some-default-true.at + 1) k (subst (λ z. Contains z k) c.remove.ensures.items m)

pub returns-in-Some-default-false-clause-edges : goal.returns-in-Some-default-false-clause-edges
returns-in-Some-default-false-clause-edges g c =
    let w = c.in-Some-default-false in
    let place = subst (λ z. IsPlace z w.at false c.args.p c.args.b) c.as_slice.ensures.value (subst (λ t. IsPlace c.as_slice.result.now w.at t c.args.p c.args.b) w.field-0-1-test w.ensures.some) in
    ap (λ z. links (map (onto c.args.p c.args.b) z)) c.remove-in-Some-default-false.ensures.items ∙ removed_at c.args.p c.args.b w.at c.args.path.now.items place c.requires

pub returns-in-Some-default-false-clause-keys : goal.returns-in-Some-default-false-clause-keys
returns-in-Some-default-false-clause-keys g c = λ k m. in_removed c.args.path.now.items c.in-Some-default-false.at k (subst (λ z. Contains z k) c.remove-in-Some-default-false.ensures.items m)

pub returns-in-None-clause-edges : goal.returns-in-None-clause-edges
returns-in-None-clause-edges g c = moved_links c.args.p c.args.b c.args.path.now.items (ap (λ z. times c.args.p c.args.b (links z)) (sym c.as_slice.ensures.value) ∙ c.in-None.ensures.none (omega arith) (omega (arith, ap length c.as_slice.ensures.value, c.len.ensures, c.args.path.now.ok)))
