use Rattle.kit_words.proofs.Common.{sym, ◌∙◌, not-false}
use Rattle.ring_machine.proofs.Common.{segment_eq-true}
use Rattle.layer_sides.proofs.Grouping.{run_more}
use Rattle.layer_sides.proofs.borders.run_length.Goals as goal

pub loop-i-preserved : goal.loop-i-preserved
loop-i-preserved c =
    let x = c.index-rest-i.result in
    run_more c.args.rest.now c.loop-i.i x c.args.segment c.loop-i.invariant c.loop-i-test.true c.index-rest-i.is
    (segment_eq-true x.segment c.args.segment (not-false _ (sym c.ne.ensures ∙ c.if-ne.false)))
