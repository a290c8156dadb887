use Rattle.kit_words.proofs.Common.{◌∙◌, sym, subst, Decides-eqb, slice_eq-Decides}
use Rattle.layer_sides.specs.Seen.{borders_seen}
use Rattle.layer_sides.specs.Under.{AreOddOf, borders_at}
use Rattle.layer_sides.proofs.HoldingSides.{same_odd}
use Rattle.layer_sides.proofs.holding.write_sides.Goals as goal

pub returns-then-eq-clause-same : goal.returns-then-eq-clause-same
returns-then-eq-clause-same g c =
    let ended = c.args.ended.now in
    let before = c.in_ok-before.before.items in
    same_odd _ _ before c.in_ok-after.after.items
    (subst (λ bs. AreOddOf (borders_at (borders_seen bs) ended) before) c.as_slice.ensures.value c.in_ok-before.ensures) c.in_ok-after.ensures.odd
    (sym c.as_slice-2.ensures.value
    ∙ (slice_eq-Decides Decides-eqb c.as_slice-2.result.now c.as_slice-3.result.now c.eq.result c.eq.ensures).0 c.if-eq.true
    ∙ c.as_slice-3.ensures.value)
