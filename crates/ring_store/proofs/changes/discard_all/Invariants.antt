use Rattle.kit_words.proofs.Common.{◌≡◌, take}
use Rattle.ring_store.specs.Common.{Drops}
use Rattle.ring_store.proofs.changes.discard_all.Given as goal

-- the segments so far went
abbrev pub invariant-loop-s : goal.invariant-loop-s
invariant-loop-s g l = record {
  dropped : Drops (g.I.SegIndex.held l.initial.index) (take l.s-index l.segments) (g.I.SegIndex.held l.index);
  cells : g.I.SegIndex.cells l.index ≡ g.I.SegIndex.cells l.initial.index;
}
