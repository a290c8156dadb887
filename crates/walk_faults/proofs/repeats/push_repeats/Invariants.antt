use Rattle.kit_words.proofs.Common.{◌≡◌, ◌≤◌, ◌++◌, map, take, length}
use Rattle.walk_faults.specs.Common.{repeat_at}
use Rattle.walk_faults.proofs.repeats.push_repeats.Given as goal

-- those of the positions so far are appended
abbrev pub invariant-loop-pos : goal.invariant-loop-pos
invariant-loop-pos g l = record {
  pushed : l.out.items ≡ l.fn.out.items ++ map (repeat_at l.ring) (take l.pos-index l.positions);
  few : length l.fn.out.items ≤ l.most → length l.out.items ≤ l.most;
}
