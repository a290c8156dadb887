use Rattle.kit_words.proofs.Common.{◌≡◌, ◌≤◌, ◌+◌, ◌++◌, length, take, ◌-◌, vec_len, vec_capacity}
use Rattle.arc_tables.specs.Common.{walk}
use Rattle.ring_store.proofs.ring_keys.push_begins.Given as goal

-- the keys so far, and there is room for the others
abbrev pub invariant-loop-at : goal.invariant-loop-at
invariant-loop-at g l = record {
  keys : l.out.items ≡ l.fn.out.items ++ take (l.at - 1) (walk l.back l.path);
  room : vec_len l.out + length l.path ≤ vec_capacity l.out + l.at;
}
