use Rattle.kit_words.proofs.Common.{◌≡◌, map, take}
use Rattle.walk_faults.specs.Common.{all_positions, walk_seen}
use Rattle.walk_faults.proofs.gathered.vertices.Given as goal

-- the positions of the walks so far
abbrev pub invariant-loop-walk : goal.invariant-loop-walk
invariant-loop-walk g l = l.found.items ≡ all_positions (map walk_seen (take l.walk-index l.walks))
