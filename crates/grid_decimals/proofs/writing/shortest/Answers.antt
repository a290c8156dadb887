use Rattle.kit_words.proofs.Common.{◌≡◌, ap, sym, ◌∙◌, arith}
use Rattle.grid_decimals.specs.Common.{shortest}
use Rattle.grid_decimals.proofs.Shortest.{shortest_none, shortest_step, shortest_stop}
use Rattle.grid_decimals.proofs.writing.shortest.Goals as goal

pub loop-kept-preserved : goal.loop-kept-preserved
loop-kept-preserved c = record {
  value = sym (shortest_step c.loop-kept.kept c.loop-kept.short (omega arith) (omega arith)) ∙ c.loop-kept.invariant.value;
  bound = omega arith;
}

pub returns-else-short-eq0-clause-value : goal.returns-else-short-eq0-clause-value
returns-else-short-eq0-clause-value c =
    sym (shortest_stop c.loop-kept.kept c.loop-kept.short (λ e. absurd (omega (arith, e)))) ∙ c.loop-kept.invariant.value

pub returns-after-loop-kept-clause-value : goal.returns-after-loop-kept-clause-value
returns-after-loop-kept-clause-value c =
    let none : c.loop-kept.kept ≡ 0 = omega arith in
    ap (λ k. (k, c.loop-kept.short)) none ∙ (sym (shortest_none c.loop-kept.short)
    ∙ (ap (λ k. shortest k c.loop-kept.short) (sym none) ∙ c.loop-kept.invariant.value))
