use Rattle.kit_words.proofs.Common.{◌≤◌, ◌+◌, take, length, vec_len, vec_capacity}
use Rattle.vertex_index.specs.Common.{AreDistinct}
use Rattle.ring_store.proofs.Keys.{IsRead}
use Rattle.ring_store.proofs.sides.key_ring.Given as goal

-- the positions so far
abbrev pub invariant-loop-p : goal.invariant-loop-p
invariant-loop-p g l = record {
  read : IsRead l.initial.vertices l.vertices l.keys.items (take l.p-index l.ring);
  distinct : AreDistinct l.vertices;
  room : vec_len l.keys + length l.ring ≤ vec_capacity l.keys + l.p-index;
}
