use Rattle.kit_words.proofs.Common.{◌∙◌, ap, nat_le}
use Rattle.topo_reader.proofs.Counting.{fits}
use Rattle.topo_reader.proofs.limits.fit.Goals as goal

pub returns : goal.returns
returns g c = ap (λ n. nat_le n 4000000) c.size.ensures ∙ fits c.args.features.now
