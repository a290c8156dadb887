use Rattle.decimal_texts.specs.Common.{parts, fine}
use Rattle.grid_reader.proofs.Reach.{beyond_reach}
use Rattle.grid_reader.proofs.fine.summed.Goals as goal

pub returns-then-is_within-clause-range : goal.returns-then-is_within-clause-range
returns-then-is_within-clause-range c = c.is_within.ensures.reach c.if-is_within.true

pub returns-in-None-clause-value : goal.returns-in-None-clause-value
returns-in-None-clause-value c = rw (beyond_reach c.args.finer c.args.before (fine (parts c.args.number)) c.requires.near c.in-None.ensures.value)
