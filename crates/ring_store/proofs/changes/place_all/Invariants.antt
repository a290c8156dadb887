use Rattle.kit_words.proofs.Common.{◌≤◌, ◌+◌, length, take, drop, vec_len, vec_capacity}
use Rattle.ring_store.specs.Common.{ArePlaceable, AreKeyed}
use Rattle.ring_store.proofs.changes.place_all.Given as goal

-- so many are placed, and the others can be
abbrev pub invariant-loop-r : goal.invariant-loop-r
invariant-loop-r g l = record {
  keyed : AreKeyed l.fn.vertices (take l.r-index l.removals) l.placed.items l.vertices;
  left : ArePlaceable l.vertices (drop l.r-index l.removals);
  room : vec_len l.placed + length l.removals ≤ vec_capacity l.placed + l.r-index;
}
