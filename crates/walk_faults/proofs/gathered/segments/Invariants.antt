use Rattle.kit_words.proofs.Common.{◌≡◌, map, take}
use Rattle.walk_faults.specs.Common.{segments_of_walks, walk_seen}
use Rattle.walk_faults.proofs.gathered.segments.Given as goal

-- the segments of the walks so far
abbrev pub invariant-loop-walk : goal.invariant-loop-walk
invariant-loop-walk g l = l.found.items ≡ segments_of_walks (map walk_seen (take l.walk-index l.walks))
