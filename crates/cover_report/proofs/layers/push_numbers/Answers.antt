use Rattle.kit_words.proofs.Common.{◌∷◌, [], append-nil, arith, sym}
use Rattle.cover_report.proofs.Counted.{range_more}
use Rattle.cover_report.proofs.ToldLemmas.{longer}
use Rattle.cover_report.proofs.layers.push_numbers.Goals as goal

pub loop-number-init : goal.loop-number-init
loop-number-init g c = sym (append-nil c.args.numbers.now.items)

pub loop-number-preserved : goal.loop-number-preserved
loop-number-preserved g c =
    longer c.args.numbers.now.items c.push.new.self.items _ c.loop-number.numbers.items (c.loop-number.number ∷ []) _
    c.in_ok-push.ensures.items c.loop-number.invariant (range_more 0 c.loop-number.number c.loop-number.number (omega arith))
