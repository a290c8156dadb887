use Rattle.kit_words.proofs.Common.{◌≡◌, take}
use Rattle.map_features.specs.Common.{missing_flags}
use Rattle.map_features.proofs.sorted.missing.Given as goal

-- the flags so far
abbrev pub invariant-loop-x : goal.invariant-loop-x
invariant-loop-x g l = l.flags.items ≡ missing_flags g.T.PartialEq.eq l.others (take l.x-index l.these)
