use Rattle.arc_tables.proofs.Running.{advances_after}
use Rattle.arc_tables.proofs.tables.Tables.go_shared.Goals as goal

pub returns : goal.returns
returns g c = advances_after c.args.self.now c.begin_at.new.self c.run.new.self c.args.r c.args.keys.now c.run.result _ c.begin_at.ensures.keeps c.begin_at.ensures.held c.run.ensures
