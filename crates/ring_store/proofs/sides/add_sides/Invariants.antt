use Rattle.kit_words.proofs.Common.{◌≡◌, take}
use Rattle.arc_tables.specs.Common.{edges}
use Rattle.ring_store.specs.Common.{HoldsWith}
use Rattle.ring_store.proofs.sides.add_sides.Given as goal

-- the first edges' segments are held
abbrev pub invariant-loop-at : goal.invariant-loop-at
invariant-loop-at g l = record {
  holds : HoldsWith l.vertices l.borders (g.I.SegIndex.held l.index) (take l.at (edges l.keys));
  cells : g.I.SegIndex.cells l.index ≡ g.I.SegIndex.cells l.initial.index;
}
