use Rattle.map_features.proofs.QuotientLemmas.{quotient_size, quotient_small, quotient_sign}
use Rattle.map_features.proofs.quotients.quotient.Goals as goal

pub returns-clause-size : goal.returns-clause-size
returns-clause-size c = quotient_size c.args.part c.args.whole c.ranges.part c.ranges.whole c.requires

pub returns-clause-small : goal.returns-clause-small
returns-clause-small c = quotient_small c.args.part c.args.whole c.ranges.part c.ranges.whole c.requires

pub returns-clause-sign : goal.returns-clause-sign
returns-clause-sign c = quotient_sign c.args.part c.args.whole c.ranges.part c.ranges.whole c.requires
