use Rattle.kit_words.proofs.Common.{◌∙◌}
use Rattle.layer_faces.proofs.Apart.{counted_all, counted_some}
use Rattle.layer_faces.proofs.holders.count_below.Goals as goal

pub returns-then-n-m-clause-value : goal.returns-then-n-m-clause-value
returns-then-n-m-clause-value c =
    c.loop-m.invariant.place ∙ counted_some c.args.n c.loop-m.m-index c.args.numbers.now c.loop-m-test.true c.loop-m.invariant.below c.if-n-m.true

pub returns-clause-value : goal.returns-clause-value
returns-clause-value c =
    c.loop-m.invariant.place ∙ counted_all c.args.n c.loop-m.m-index c.args.numbers.now c.loop-m.auto.m-index-end c.loop-m-test.false c.loop-m.invariant.below
