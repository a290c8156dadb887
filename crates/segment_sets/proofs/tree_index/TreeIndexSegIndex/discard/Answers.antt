use Rattle.kit_words.proofs.Common.{ap, ◌∙◌}
use Rattle.std.specs.FinSet as set
use Rattle.segment_sets.proofs.Common.{set_of-lost, single-lost}
use Rattle.segment_sets.proofs.tree_index.TreeIndexSegIndex.discard.Goals as goal

pub invariant_of-self : goal.invariant_of-self
invariant_of-self g c =
    single-lost c.self.inside.directory c.take_out.new.self c.args.s c.self.invariant (rw c.of.ensures at c.take_out.ensures)

pub returns-clause-removed : goal.returns-clause-removed
returns-clause-removed g c =
    set_of-lost c.self.inside.directory c.take_out.new.self c.args.s c.self.invariant (rw c.of.ensures at c.take_out.ensures) ∙ ap (λ s. set.remove s c.args.s) c.self.view_is
