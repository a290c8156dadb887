use Rattle.kit_words.proofs.Common.{arith, refl}
use Rattle.decimal_texts.proofs.NewTexts.{spliced_turn}
use Rattle.decimal_texts.proofs.splicing.spliced.Goals as goal

pub loop-change-preserved : goal.loop-change-preserved
loop-change-preserved g c =
    spliced_turn c.args.bytes.now c.loop-change.from _ c.args.changes.now c.loop-change.change-index c.change-item.result _ _ _ _ _
    (omega arith) c.change-item.is c.between.ensures c.in_ok-extend_from_slice.ensures.items
    c.in_ok-push_number.ensures refl c.loop-change.invariant
