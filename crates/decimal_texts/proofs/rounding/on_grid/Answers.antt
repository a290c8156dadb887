use Rattle.decimal_texts.specs.Fine.{fine}
use Rattle.decimal_texts.specs.Seen.{parts}
use Rattle.decimal_texts.proofs.Fits.{beyond}
use Rattle.decimal_texts.proofs.rounding.on_grid.Goals as goal

pub returns-in-None : goal.returns-in-None
returns-in-None c = rw (beyond c.args.grid.digits c.args.grid.finer (fine (parts c.args.number)) c.in-None.ensures.value)
