use Rattle.kit_words.proofs.Common.{◌≡◌, ◌++◌, drop, map, AllByRecursion}
use Rattle.topo_reader.specs.Common.{positions_of}
use Rattle.grid_reader.specs.Common.{position_on_grid, IsNear, arcs_seen}
use Rattle.grid_reader.proofs.grid.arcs_on.Given as goal

abbrev pub invariant-loop-arc : goal.invariant-loop-arc
invariant-loop-arc g l = record {
  all : map positions_of l.found.items ++ map (map (position_on_grid l.digits l.finer)) (arcs_seen (drop l.arc-index l.arcs)) ≡ map (map (position_on_grid l.digits l.finer)) (arcs_seen l.fn.arcs);
  near : AllByRecursion (AllByRecursion (IsNear l.digits l.finer)) (arcs_seen (drop l.arc-index l.arcs));
}
