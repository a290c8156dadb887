use Rattle.kit_words.proofs.Common.{◌≡◌, ◌≤◌, ◌++◌, map, take, length}
use Rattle.walk_faults.specs.Common.{touch_at}
use Rattle.walk_faults.proofs.meeting.push_touches.Given as goal

-- those of the segments so far are appended
abbrev pub invariant-loop-segment : goal.invariant-loop-segment
invariant-loop-segment g l = record {
  pushed : l.out.items ≡ l.fn.out.items ++ map (touch_at l.pos) (take l.segment-index l.segments);
  few : length l.fn.out.items ≤ l.most → length l.out.items ≤ l.most;
}
