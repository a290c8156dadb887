use Rattle.kit_words.proofs.Common.{◌≡◌, ◌+◌, ◌++◌, map, length, take, drop, sum}
use Rattle.map_opening.specs.Common.{in_lists, lists_seen}
use Rattle.map_opening.proofs.flat.next_lists.Given as goal

-- the lists so far
abbrev pub invariant-loop-count : goal.invariant-loop-count
invariant-loop-count g l = record {
  lists : in_lists (lists_seen l.lists.items) ++ drop l.next l.numbers ≡ drop l.initial.next l.numbers;
  counts : map length (lists_seen l.lists.items) ≡ take l.count-index l.counts;
  next : l.next ≡ l.initial.next + sum (take l.count-index l.counts);
}
