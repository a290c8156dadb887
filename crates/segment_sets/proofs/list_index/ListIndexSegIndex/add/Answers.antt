use Rattle.segment_sets.proofs.Common.{single-added, set_of-added}
use Rattle.segment_sets.proofs.list_index.ListIndexSegIndex.add.Goals as goal

pub invariant_of-self : goal.invariant_of-self
invariant_of-self g c =
    single-added c.put.result c.self.inside.cell c.put.new.self c.args.s c.self.invariant (rw c.self.view_is c.requires) c.put.ensures.put c.put.ensures.unchanged

pub returns-clause-added : goal.returns-clause-added
returns-clause-added g c =
    rw (← c.self.view_is) (set_of-added c.put.result c.self.inside.cell c.put.new.self c.args.s c.put.ensures.put)
