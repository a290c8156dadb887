use Rattle.ring_parts.proofs.PathLists.{path_is, whole}
use Rattle.ring_parts.proofs.paths.Path.new.Goals as goal

pub returns-in-len2-up-clause-value : goal.returns-in-len2-up-clause-value
returns-in-len2-up-clause-value c = path_is c.args.positions.now c.first-item.result c.last-item.result c.in-len2-up.len_at_least c.first-item.is c.last-item.is

pub returns-in-len2-up-clause-positions : goal.returns-in-len2-up-clause-positions
returns-in-len2-up-clause-positions c = whole c.args.positions.now c.first-item.result c.last-item.result c.in-len2-up.len_at_least c.first-item.is c.last-item.is
