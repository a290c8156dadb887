use Rattle.border_show.proofs.FoundLemmas.{no_map_before}
use Rattle.border_show.proofs.finding.named_elsewhere.Goals as goal

pub returns-in-None : goal.returns-in-None
returns-in-None c = no_map_before c.args.before c.args.name.now c.single_feature.result c.in-None.is
