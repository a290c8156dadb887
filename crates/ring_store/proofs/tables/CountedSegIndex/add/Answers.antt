use Rattle.kit_words.proofs.Common.{◌∙◌, ap, arith}
use Rattle.std.specs.FinSet as set
use Rattle.ring_store.specs.Common.{Indexed}
use Rattle.ring_store.proofs.Held.{len_more}
use Rattle.ring_store.proofs.tables.CountedSegIndex.add.Goals as goal

pub invariant_of-self-2 : goal.invariant_of-self-2
invariant_of-self-2 g c =
    omega (
      arith,
      c.self.invariant,
      c.in-Some.ensures,
      len_more (g.I.SegIndex.held c.self.inside.index) (g.I.SegIndex.held c.add.new.self) c.args.s
          (ap (λ (i : Indexed). set.contains i.held c.args.s) c.self.view_is ∙ c.requires) c.in_ok-add.ensures.added,
    )
