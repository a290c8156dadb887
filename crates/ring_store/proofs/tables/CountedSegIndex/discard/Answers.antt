use Rattle.kit_words.proofs.Common.{◌∙◌, ap, arith}
use Rattle.std.specs.FinSet as set
use Rattle.ring_store.specs.Common.{Indexed}
use Rattle.ring_store.proofs.Held.{len_less}
use Rattle.ring_store.proofs.tables.CountedSegIndex.discard.Goals as goal

pub overflow_sub-self : goal.overflow_sub-self
overflow_sub-self g c =
    omega (
      arith,
      c.self.invariant,
      len_less (g.I.SegIndex.held c.self.inside.index) (g.I.SegIndex.held c.discard.new.self) c.args.s
          (ap (λ (i : Indexed). set.contains i.held c.args.s) c.self.view_is ∙ c.requires) c.discard.ensures.removed,
    )

pub invariant_of-self : goal.invariant_of-self
invariant_of-self g c =
    omega (
      arith,
      c.self.invariant,
      len_less (g.I.SegIndex.held c.self.inside.index) (g.I.SegIndex.held c.discard.new.self) c.args.s
          (ap (λ (i : Indexed). set.contains i.held c.args.s) c.self.view_is ∙ c.requires) c.discard.ensures.removed,
    )
