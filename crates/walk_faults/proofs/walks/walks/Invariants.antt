use Rattle.kit_words.proofs.Common.{◌≡◌, map, take}
use Rattle.walk_faults.specs.Common.{walks_of, walk_seen, features_seen}
use Rattle.walk_faults.proofs.walks.walks.Given as goal

-- the walks of the features so far
abbrev pub invariant-loop-feature : goal.invariant-loop-feature
invariant-loop-feature g l = map walk_seen l.found.items ≡ walks_of (features_seen (take l.feature l.polygons))
