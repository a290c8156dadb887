use Rattle.kit_words.proofs.Common.{◌≡◌, ◌++◌, drop, map, AllByRecursion}
use Rattle.grid_reader.specs.Common.{position_on_grid, IsNear, fine_seen}
use Rattle.grid_reader.proofs.grid.arc_on.Given as goal

abbrev pub invariant-loop-pos : goal.invariant-loop-pos
invariant-loop-pos g l = record {
  all : l.found.items ++ map (position_on_grid l.digits l.finer) (map fine_seen (drop l.pos-index l.arc)) ≡ map (position_on_grid l.digits l.finer) (map fine_seen l.fn.arc);
  near : AllByRecursion (IsNear l.digits l.finer) (map fine_seen (drop l.pos-index l.arc));
}
