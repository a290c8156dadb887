use Rattle.kit_words.proofs.Common.{◌≡◌, ◌++◌, take, flat_map}
use Rattle.feature_exchange.specs.Common.{rings_under}
use Rattle.feature_exchange.proofs.numbers.push_features.Given as goal

-- the numbers of the features so far
abbrev pub invariant-loop-change : goal.invariant-loop-change
invariant-loop-change g l =
    l.numbers.items ≡ l.fn.numbers.items ++ flat_map (λ c. rings_under l.frame.doc c.number) (take l.change-index l.changes)
