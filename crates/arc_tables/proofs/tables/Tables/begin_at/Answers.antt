use Rattle.arc_tables.proofs.Running.{cut_or_not}
use Rattle.arc_tables.proofs.tables.Tables.begin_at.Goals as goal

pub returns-clause-keeps : goal.returns-clause-keeps
returns-clause-keeps g c = cut_or_not c.args.self.now c.cut.new.self c.args.i c.args.at c.cut.result c.cut.ensures.ok c.cut.ensures.err c.cut.ensures.err_rings
