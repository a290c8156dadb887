use Rattle.border_show.proofs.NumberLemmas.{fitting, written}
use Rattle.border_show.proofs.command_line.number_of.Goals as goal

pub returns-clause-written : goal.returns-clause-written
returns-clause-written c = written c.args.text.now c.parse.result c.ok.result c.parse.ensures.value.0 c.ok.ensures.value

pub returns-clause-fits : goal.returns-clause-fits
returns-clause-fits c = fitting c.args.text.now c.parse.result c.ok.result c.parse.ensures.value.0 c.ok.ensures.value
