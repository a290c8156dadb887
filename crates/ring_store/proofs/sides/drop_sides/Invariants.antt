use Rattle.kit_words.proofs.Common.{◌≡◌, ◌≤◌, length, take}
use Rattle.arc_tables.specs.Common.{edges}
use Rattle.ring_store.specs.Common.{HoldsWith}
use Rattle.ring_store.proofs.sides.drop_sides.Given as goal

-- the first edges' segments are held still
abbrev pub invariant-loop-left : goal.invariant-loop-left
invariant-loop-left g l = record {
  within : l.left ≤ length l.keys;
  holds : HoldsWith l.vertices l.borders (g.I.SegIndex.held l.index) (take l.left (edges l.keys));
  cells : g.I.SegIndex.cells l.index ≡ g.I.SegIndex.cells l.initial.index;
}

abbrev pub decreases-loop-left : goal.decreases-loop-left
decreases-loop-left g l = l.left
