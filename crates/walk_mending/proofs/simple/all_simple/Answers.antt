use Rattle.kit_words.proofs.Common.{ap, sym, ◌∙◌}
use Rattle.topo_reader.specs.Common.{is_simple}
use Rattle.walk_mending.proofs.Bounds.{fails_at}
use Rattle.walk_mending.proofs.simple.all_simple.Goals as goal

pub returns-then-not-branch : goal.returns-then-not-branch
returns-then-not-branch g c =
    fails_at is_simple (λ ring. ring.items) c.args.walks.now c.loop-walk.walk-index c.walk-item.result c.loop-walk-test.true c.walk-item.is
    (ap is_simple (sym c.as_slice.ensures.value) ∙ sym c.in_ok-is_simple.ensures ∙ c.if-not-branch.true)
