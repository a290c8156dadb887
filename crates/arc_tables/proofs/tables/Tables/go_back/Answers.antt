use Rattle.arc_tables.proofs.Running.{advances_after}
use Rattle.arc_tables.proofs.tables.Tables.go_back.Goals as goal

pub returns : goal.returns
returns g c = advances_after c.args.self.now c.end_at.new.self c.run_back.new.self c.args.r c.args.keys.now c.run_back.result _ c.in_ok-end_at.ensures.ok.keeps c.end_at.ensures.held c.run_back.ensures
