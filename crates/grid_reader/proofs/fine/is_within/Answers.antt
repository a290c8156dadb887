use Rattle.kit_words.proofs.Common.{arith, to_z-of_z, leb-true}
use Rattle.grid_reader.proofs.Reach.{power_fits}
use Rattle.grid_reader.proofs.fine.is_within.Goals as goal
use mir.Syntax.{w128}
use mir.Val.{SFits}

pub pow-requires : goal.pow-requires
pow-requires c = omega (arith, power_fits c.args.finer)

pub returns-clause-reach : goal.returns-clause-reach
returns-clause-reach c = λ h.
    let fits : SFits w128 c.args.units = c.ranges.units in
    omega (arith, leb-true c.unsigned_abs.result c.pow.result h, c.pow.ensures, power_fits c.args.finer, simp to_z-of_z at c.unsigned_abs.ensures.value)
