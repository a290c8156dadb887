use Rattle.kit_words.proofs.Common.{◌++◌, ◌∙◌, ap, flat_map, take_all}
use Rattle.feature_exchange.specs.Common.{rings_under}
use Rattle.feature_exchange.proofs.numbers.push_features.Goals as goal

pub returns : goal.returns
returns g c =
    c.loop-change.invariant
    ∙ ap (λ z. c.args.numbers.now.items ++ flat_map (λ k. rings_under c.args.frame.now.doc k.number) z) (take_all c.loop-change.change-index c.args.changes.now c.loop-change-test.false)
