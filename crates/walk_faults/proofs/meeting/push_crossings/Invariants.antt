use Rattle.kit_words.proofs.Common.{◌≡◌, ◌≤◌, ◌++◌, map, take, length}
use Rattle.walk_faults.specs.Common.{crossing_at}
use Rattle.walk_faults.proofs.meeting.push_crossings.Given as goal

-- those of the segments so far are appended
abbrev pub invariant-loop-second : goal.invariant-loop-second
invariant-loop-second g l = record {
  pushed : l.out.items ≡ l.fn.out.items ++ map (crossing_at l.first) (take l.second-index l.others);
  few : length l.fn.out.items ≤ l.most → length l.out.items ≤ l.most;
}
