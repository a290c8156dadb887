use Rattle.kit_words.proofs.Common.{[], ◌∷◌, ◌++◌, ◌∙◌, sym, ap, take_all, mapped_more}
use Rattle.feature_exchange.specs.Common.{numbers_of}
use Rattle.feature_exchange.proofs.numbers.laid_numbers.Goals as goal

pub loop-ring-preserved : goal.loop-ring-preserved
loop-ring-preserved g c =
    c.in_ok-push.ensures.items
    ∙ ap (λ z. z ++ c.ring-item.result.number ∷ []) c.loop-ring.invariant
    ∙ sym (mapped_more (λ ring. ring.number) c.args.laid.now c.loop-ring.ring-index c.ring-item.result c.loop-ring-test.true c.ring-item.is)

pub returns : goal.returns
returns g c =
    c.loop-ring.invariant ∙ ap numbers_of (take_all c.loop-ring.ring-index c.args.laid.now c.loop-ring-test.false)
