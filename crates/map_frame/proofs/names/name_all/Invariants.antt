use Rattle.kit_words.proofs.Common.{◌<◌, map, []}
use Rattle.map_frame.specs.Common.{feature_numbers, Gain}
use Rattle.map_frame.proofs.BuiltNames.{OfAll}
use Rattle.map_frame.proofs.names.name_all.Given as goal

-- the rings of the features so far have names
abbrev pub invariant-loop-feature : goal.invariant-loop-feature
invariant-loop-feature g l =
    Gain [] l.names.items (λ o k. OfAll (map feature_numbers l.features) o k × (o.feature < l.feature))
