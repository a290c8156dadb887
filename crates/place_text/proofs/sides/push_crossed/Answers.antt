use Rattle.kit_words.proofs.Common.{◌∙◌, append_assoc}
use Rattle.place_text.specs.Common.{crossing_sides}
use Rattle.place_text.proofs.Numbered.{one_more}
use Rattle.place_text.proofs.sides.push_crossed.Goals as goal

pub loop-number-preserved : goal.loop-number-preserved
loop-number-preserved g c =
    one_more crossing_sides c.args.pairs.now c.loop-number.number c.index-pairs-number.result c.args.sides.now.items c.loop-number.sides.items c.push-in-loop-number.new.self.items
    c.loop-number-test.true c.index-pairs-number.is c.loop-number.invariant
    ((rw c.in_ok-push.ensures.items at c.in_ok-push-2.ensures.items) ∙ append_assoc c.loop-number.sides.items _ _)
