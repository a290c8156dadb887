use Rattle.kit_words.proofs.Common.{◌≡◌, ◌≤◌, map, take, length}
use Rattle.walk_faults.specs.Common.{all_repeats, walk_seen}
use Rattle.walk_faults.proofs.repeats.repeats.Given as goal

-- the repeats of the walks so far
abbrev pub invariant-loop-walk : goal.invariant-loop-walk
invariant-loop-walk g l = record {
  found : l.found.items ≡ all_repeats (map walk_seen (take l.walk-index l.walks));
  few : length l.found.items ≤ l.most;
}
