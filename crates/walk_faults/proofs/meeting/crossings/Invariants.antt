use Rattle.kit_words.proofs.Common.{◌≡◌, ◌≤◌, take, length}
use Rattle.walk_faults.specs.Common.{crossings_among}
use Rattle.walk_faults.proofs.meeting.crossings.Given as goal

-- the crossings of the segments so far
abbrev pub invariant-loop-s : goal.invariant-loop-s
invariant-loop-s g l = record {
  found : l.found.items ≡ crossings_among (take l.s-index l.segments) l.segments;
  few : length l.found.items ≤ l.most;
}
