use Rattle.kit_words.proofs.Common.{◌≡◌, List, ◌++◌, take}
use Rattle.grid_geometry.specs.Common.{Segment}
use Rattle.arc_tables.specs.Common.{edges}
use Rattle.ring_store.specs.Common.{sides}
use Rattle.local_planarity.specs.Common.{IsFilled}
use Rattle.map_opening.specs.Common.{HasSides}
use Rattle.map_opening.proofs.filling.fill_ring.Given as goal

-- the segments of the edges so far are held
abbrev pub invariant-loop-at : goal.invariant-loop-at
invariant-loop-at g l = record {
  filled : (ss : List Segment) → HasSides l.initial.tables → IsFilled l.initial.tables.index.held l.initial.first ss
      → IsFilled l.tables.index.held l.first (ss ++ sides l.initial.tables.vertices (take l.at (edges l.keys)));
  vertices : l.tables.vertices ≡ l.initial.tables.vertices;
  borders : l.tables.borders ≡ l.initial.tables.borders;
  cells : l.tables.index.cells ≡ l.initial.tables.index.cells;
}
