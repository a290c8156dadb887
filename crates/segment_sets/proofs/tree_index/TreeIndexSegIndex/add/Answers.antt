use Rattle.segment_sets.proofs.Common.{put-single, put-added, put-unchanged}
use Rattle.segment_sets.proofs.tree_index.TreeIndexSegIndex.add.Goals as goal

pub invariant_of-self : goal.invariant_of-self
invariant_of-self g c =
    put-single c.put.result c.self.inside.directory c.put.new.self c.args.s c.self.invariant (rw c.self.view_is c.requires) (rw c.of.ensures at c.put.ensures.put) c.put.ensures.unchanged

pub returns-clause-added : goal.returns-clause-added
returns-clause-added g c =
    rw (← c.self.view_is) (put-added c.put.result c.self.inside.directory c.put.new.self c.args.s (rw c.of.ensures at c.put.ensures.put))

pub returns-clause-unchanged : goal.returns-clause-unchanged
returns-clause-unchanged g c =
    rw (← c.self.view_is) (put-unchanged c.put.result c.self.inside.directory c.put.new.self c.put.ensures.unchanged)
