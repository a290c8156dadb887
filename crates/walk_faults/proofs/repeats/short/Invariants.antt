use Rattle.kit_words.proofs.Common.{◌≡◌, ◌≤◌, map, take, length}
use Rattle.walk_faults.specs.Common.{short_walks, walk_seen}
use Rattle.walk_faults.proofs.repeats.short.Given as goal

-- the short ones of the walks so far
abbrev pub invariant-loop-walk : goal.invariant-loop-walk
invariant-loop-walk g l = record {
  found : l.found.items ≡ short_walks (map walk_seen (take l.walk-index l.walks));
  few : length l.found.items ≤ l.most;
}
