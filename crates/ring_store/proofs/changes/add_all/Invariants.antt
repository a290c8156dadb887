use Rattle.kit_words.proofs.Common.{◌≡◌, take}
use Rattle.ring_store.specs.Common.{GainsSegments}
use Rattle.ring_store.proofs.changes.add_all.Given as goal

-- the segments so far came
abbrev pub invariant-loop-at : goal.invariant-loop-at
invariant-loop-at g l = record {
  gained : GainsSegments (g.I.SegIndex.held l.initial.index) (take l.at l.segments) (g.I.SegIndex.held l.index);
  cells : g.I.SegIndex.cells l.index ≡ g.I.SegIndex.cells l.initial.index;
}
