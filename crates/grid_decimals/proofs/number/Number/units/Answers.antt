use Rattle.kit_words.proofs.Common.{◌≡◌, arith, common_steps, pos, ◌+ℤ◌}
use Rattle.grid_decimals.specs.Common.{at_least_zero, power_of}
use Rattle.grid_decimals.proofs.Units.{units_large}
use Rattle.grid_decimals.proofs.number.Number.units.Goals as goal

pub returns-in_err-size : goal.returns-in_err-size
returns-in_err-size c =
    rw c.from_residual.ensures (λ p h.
    let power : c.at_least_zero-power.result ≡ at_least_zero (pos c.args.decimals +ℤ power_of p) = grind (arith, common_steps) in
    units_large c.args.decimals c.args.self.now.size c.at_least_zero-power.result p h.size power c.in_err-size.ensures.value)
