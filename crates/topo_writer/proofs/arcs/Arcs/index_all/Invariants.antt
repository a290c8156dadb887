use Rattle.kit_words.proofs.Common.{◌≡◌, ◌+◌, ◌≤◌, List, drop}
use Rattle.grid_geometry.specs.Common.{Position}
use Rattle.topo_writer.specs.Common.{Finds, all_found, indexes_found, FitAll}
use Rattle.topo_writer.proofs.IndexWays.{Indexing}
use Rattle.topo_writer.proofs.arcs.Arcs.index_all.Given as goal

abbrev pub invariant-loop-i : goal.invariant-loop-i
invariant-loop-i g l = record {
  rings : l.self.rings ≡ l.fn.self.rings;
  delta : l.self.delta ≡ l.fn.self.delta;
  few : l.self.count ≤ l.fn.self.count + l.i;
  indexing : (arcs : List (List Position)) → Finds l.fn.self arcs → FitAll arcs l.ring
      → Indexing l.self l.indexes.items (drop l.i l.ring) (all_found arcs l.ring) (indexes_found arcs l.ring);
}
