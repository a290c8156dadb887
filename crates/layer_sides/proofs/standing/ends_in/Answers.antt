use Rattle.kit_words.proofs.Common.{arith}
use Rattle.layer_sides.proofs.Cancelling.{ends_tell, none_tells}
use Rattle.layer_sides.proofs.standing.ends_in.Goals as goal

pub returns-in-len1-up : goal.returns-in-len1-up
returns-in-len1-up c = ends_tell c.args.kept.now c.last-item.result c.args.x c.eq.result c.in-len1-up.len_at_least c.last-item.is c.eq.ensures

pub returns-in-empty : goal.returns-in-empty
returns-in-empty c = none_tells c.args.kept.now c.args.x (omega arith)
