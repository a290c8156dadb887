use Rattle.kit_words.proofs.Common.{ap, ◌∙◌}
use Rattle.std.specs.FinSet as set
use Rattle.segment_sets.proofs.Common.{set_of-lost, single-lost}
use Rattle.segment_sets.proofs.list_index.ListIndexSegIndex.discard.Goals as goal

pub invariant_of-self : goal.invariant_of-self
invariant_of-self g c = single-lost c.self.inside.cell c.take_out.new.self c.args.s c.self.invariant c.take_out.ensures.lost

pub returns-clause-removed : goal.returns-clause-removed
returns-clause-removed g c =
    set_of-lost c.self.inside.cell c.take_out.new.self c.args.s c.self.invariant c.take_out.ensures.lost ∙ ap (λ s. set.remove s c.args.s) c.self.view_is
