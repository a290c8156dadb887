use Rattle.kit_words.proofs.Common.{◌+◌, ◌≤◌, arith}
use Rattle.grid_decimals.proofs.Powers.{scaled_mono, scaled_more}
use Rattle.grid_decimals.proofs.number.times_power.Goals as goal

pub returns-then-longer-gt-LIMIT-clause-value : goal.returns-then-longer-gt-LIMIT-clause-value
returns-then-longer-gt-LIMIT-clause-value c =
    let within : c.loop.counter + 1 ≤ c.args.power = omega arith in
    omega (arith, scaled_mono c.args.number (c.loop.counter + 1) c.args.power within, scaled_more c.args.number c.loop.counter)

pub loop-preserved : goal.loop-preserved
loop-preserved c = record {
  value = omega (arith, scaled_more c.args.number c.loop.counter);
  bound = omega arith;
}
