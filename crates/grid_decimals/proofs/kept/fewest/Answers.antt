use Rattle.kit_words.proofs.Common.{arith, ap, sym, ◌∙◌, ◌≡◌}
use Rattle.grid_decimals.specs.Common.{fewest}
use Rattle.grid_decimals.proofs.Fewest.{fewest_none, fewest_step, fewest_stop}
use Rattle.grid_decimals.proofs.kept.fewest.Goals as goal

pub loop-decimals-preserved : goal.loop-decimals-preserved
loop-decimals-preserved c = record {
  value = sym (fewest_step c.loop-decimals.decimals c.loop-decimals.wider c.args.length (omega arith) (omega arith)) ∙ c.loop-decimals.invariant.value;
  bound = omega arith;
  small = omega arith;
}

pub returns-else-wider-length-clause-value : goal.returns-else-wider-length-clause-value
returns-else-wider-length-clause-value c =
    sym (fewest_stop c.loop-decimals.decimals c.loop-decimals.wider c.args.length (omega arith)) ∙ c.loop-decimals.invariant.value

pub returns-after-loop-decimals-clause-value : goal.returns-after-loop-decimals-clause-value
returns-after-loop-decimals-clause-value c =
    let none : c.loop-decimals.decimals ≡ 0 = omega arith in
    none ∙ (sym (fewest_none c.loop-decimals.wider c.args.length)
    ∙ (ap (λ d. fewest d c.loop-decimals.wider c.args.length) (sym none) ∙ c.loop-decimals.invariant.value))
