use Rattle.kit_words.proofs.Common.{◌-◌, sym, ◌∙◌, arith}
use Rattle.decimal_texts.proofs.Common.{power_mono}
use Rattle.grid_reader.proofs.Scaled.{keeps, drops, none}
use Rattle.grid_reader.proofs.grid.fitting.Goals as goal

pub pow-requires : goal.pow-requires
pow-requires c = omega (arith, power_mono (36 - c.args.finer - c.loop-kept.kept) 36 (omega arith))

pub loop-kept-preserved : goal.loop-kept-preserved
loop-kept-preserved c = record {
  same = drops c.args.finer c.args.far c.loop-kept.kept c.requires.finer (omega arith) (omega arith) (omega (arith, c.pow.ensures)) ∙ c.loop-kept.invariant.same;
  few = omega arith;
}

pub returns-else-far-pow-clause-value : goal.returns-else-far-pow-clause-value
returns-else-far-pow-clause-value c = sym (keeps c.args.finer c.args.far c.loop-kept.kept c.requires.finer (omega arith) (omega (arith, c.pow.ensures))) ∙ c.loop-kept.invariant.same

pub returns-after-loop-kept-clause-value : goal.returns-after-loop-kept-clause-value
returns-after-loop-kept-clause-value c = sym (none c.args.finer c.args.far c.loop-kept.kept (omega arith)) ∙ c.loop-kept.invariant.same
