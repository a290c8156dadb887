use Rattle.kit_words.proofs.Common.{◌≡◌, ◌++◌, ◌∙◌, ap, sym, subst, Some, arith}
use Rattle.std.proofs.Common.{unwrap_or}
use Rattle.segment_sets.specs.Common.{joined, listed, LieIn, LiesIn}
use Rattle.segment_sets.proofs.Branches.{lies-put, lies-or, above-gained}
use Rattle.segment_sets.proofs.tree.Tree.put_above.Goals as goal

pub returns-clause-bounded : goal.returns-clause-bounded
returns-clause-bounded g c =
    let s = c.args.entry.now in
    let l = listed c.in_ok-leaf.leaf in
    let r = listed c.args.self.now in
    let both = joined c.bounds.result (Some c.rect.result) in
    let e : c.unwrap_or-bounds.result ≡ unwrap_or both c.rect-2.result = c.unwrap_or-bounds.ensures ∙ ap (λ o. unwrap_or o c.rect-2.result) c.joined.ensures in
    let one = rw c.segment.ensures at c.in_ok-leaf.ensures.one in
    let lies : LiesIn both (l ++ r) = rw c.rect.ensures (lies-put c.bounds.result s r (l ++ r) c.bounds.ensures (λ t. omega (arith, above-gained s l r one t))) in
    let lie = subst (λ b. LieIn b (l ++ r)) (sym e) (lies-or both c.rect-2.result (l ++ r) lies) in
    rw (c.swap.ensures.y_after, c.deref_mut.ensures.value, c.in_ok-sides.ensures.ok) (lie, (c.in_ok-leaf.ensures.bounded, c.requires))

pub returns-clause-put : goal.returns-clause-put
returns-clause-put g c =
    let one = rw c.segment.ensures at c.in_ok-leaf.ensures.one in
    rw (c.swap.ensures.y_after, c.deref_mut.ensures.value, c.in_ok-sides.ensures.ok) (above-gained c.args.entry.now (listed c.in_ok-leaf.leaf) (listed c.args.self.now) one)
