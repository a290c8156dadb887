use Rattle.kit_words.proofs.Common.{◌≡◌, ℕ, ◌%◌, ◌^◌, sym, ap, ap₂, ◌∙◌, arith, unsigned_abs}
use Rattle.std.proofs.Math.Facts.{to_z-of_z}
use Rattle.decimal_texts.specs.Common.{zeros_behind}
use Rattle.decimal_texts.proofs.Zeros.{zeros_step, zeros_none, zeros_all}
use Rattle.decimal_texts.proofs.fine.decimals.Goals as goal

pub loop-decimals-preserved : goal.loop-decimals-preserved
loop-decimals-preserved c = record {
  zeros = omega (arith, zeros_step c.loop-decimals.decimals c.loop-decimals.left (omega arith) (omega arith), c.loop-decimals.invariant.zeros);
  bound = omega arith;
}

pub returns-else-left-eq0-clause-value : goal.returns-else-left-eq0-clause-value
returns-else-left-eq0-clause-value c =
    let passed = ap (λ z. zeros_behind 24 (unsigned_abs z)) (to_z-of_z c.ranges.units) in
    omega (arith, passed, zeros_none c.loop-decimals.decimals c.loop-decimals.left (λ e. absurd (omega (arith, e))), c.loop-decimals.invariant.zeros)

pub returns-then-left-power_of_ten-eq0-clause-value : goal.returns-then-left-power_of_ten-eq0-clause-value
returns-then-left-power_of_ten-eq0-clause-value c =
    let size : c.unsigned_abs-left.result ≡ unsigned_abs c.args.units = c.unsigned_abs-left.ensures.value ∙ ap unsigned_abs (to_z-of_z c.ranges.units) in
    let divides : unsigned_abs c.args.units % (10 ^ 24) ≡ 0 =
    sym (ap₂ (λ (a b : ℕ). a % b) size c.power_of_ten.ensures.value) ∙ c.if-left-power_of_ten-eq0.true in
    omega (arith, zeros_all 24 (unsigned_abs c.args.units) divides)
