use Rattle.feature_exchange.proofs.Gathered.{gathered_keys}
use Rattle.feature_exchange.proofs.laid.gather_ring.Goals as goal

pub returns-clause-along : goal.returns-clause-along
returns-clause-along g c =
    gathered_keys c.args.borders.now c.args.number c.new-keys.result.items c.push_keys.new.out.items c.requires.round c.requires.there c.new-keys.ensures.items c.in_ok-push_keys.ensures
