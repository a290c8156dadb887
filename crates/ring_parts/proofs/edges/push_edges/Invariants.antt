use Rattle.kit_words.proofs.Common.{◌≡◌, ◌≤◌, ◌+◌, ◌++◌, drop, length, vec_len, vec_capacity}
use Rattle.grid_geometry.specs.Common.{edges}
use Rattle.ring_parts.proofs.Ways.{walk}
use Rattle.ring_parts.proofs.edges.push_edges.Given as goal

-- the edges so far and those of the way that is left are those of the ring, and there is room for these
abbrev pub invariant-loop-to : goal.invariant-loop-to
invariant-loop-to g l = record {
  along : l.found.items ++ walk l.from (drop l.to-index l.rest) l.first ≡ l.fn.found.items ++ edges l.ring;
  room : vec_len l.found + length l.rest + 1 ≤ vec_capacity l.found + l.to-index;
}
