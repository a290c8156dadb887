use Rattle.kit_words.proofs.Common.{map, take, flat_map}
use Rattle.map_frame.specs.Common.{feature_numbers}
use Rattle.feature_exchange.specs.Common.{asked}
use Rattle.feature_exchange.proofs.LaidSoFar.{SoFar}
use Rattle.feature_exchange.proofs.laying.lay_features.Given as goal

-- the features so far
abbrev pub invariant-loop-change : goal.invariant-loop-change
invariant-loop-change g l =
    SoFar (λ l. flat_map (λ p. p) (feature_numbers l)) (λ f l. map (map f) (feature_numbers l))
    l.fn.tables l.fn.laid.items l.tables l.laid.items l.lists.items (map asked (take l.change-index l.changes))
