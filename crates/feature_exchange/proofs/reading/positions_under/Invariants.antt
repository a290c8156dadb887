use Rattle.kit_words.proofs.Common.{◌≡◌, ◌≤◌, ◌+◌, length, map, take, vec_len, vec_capacity}
use Rattle.vertex_index.specs.Common.{place}
use Rattle.feature_exchange.proofs.reading.positions_under.Given as goal

-- the positions so far, and there is room for the others
abbrev pub invariant-loop-k : goal.invariant-loop-k
invariant-loop-k g l = record {
  positions : l.found.items ≡ map (place l.vertices) (take l.k-index l.keys);
  room : vec_len l.found + length l.keys ≤ vec_capacity l.found + l.k-index;
}
