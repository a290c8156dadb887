use Rattle.kit_words.proofs.Common.{◌≡◌, drop, unsigned_abs}
use Rattle.grid_reader.proofs.Greatest.{greatest_in}
use Rattle.grid_reader.proofs.grid.furthest.Given as goal

abbrev pub invariant-loop-arc : goal.invariant-loop-arc
invariant-loop-arc g l = greatest_in unsigned_abs l.far (drop l.arc-index l.arcs) ≡ greatest_in unsigned_abs 0 l.fn.arcs
