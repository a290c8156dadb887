use Rattle.kit_words.proofs.Common.{◌+◌, ◌≤◌, arith}
use Rattle.decimal_texts.proofs.Powers.{scaled_mono, scaled_more}
use Rattle.decimal_texts.proofs.digits.with_zeros.Goals as goal

pub returns-then-longer-ge-LIMIT-clause-value : goal.returns-then-longer-ge-LIMIT-clause-value
returns-then-longer-ge-LIMIT-clause-value c =
    let within : c.loop.counter + 1 ≤ c.args.zeros = omega arith in
    omega (arith, scaled_mono c.args.number (c.loop.counter + 1) c.args.zeros within, scaled_more c.args.number c.loop.counter)

pub loop-preserved : goal.loop-preserved
loop-preserved c = record {
  value = omega (arith, scaled_more c.args.number c.loop.counter);
  bound = omega arith;
}
