use Rattle.kit_words.proofs.Common.{◌≡◌, ◌+◌, drop}
use Rattle.grid_reader.specs.Common.{positions_moved, arcs_seen}
use Rattle.grid_reader.proofs.grid.moved.Given as goal

abbrev pub invariant-loop-arc : goal.invariant-loop-arc
invariant-loop-arc g l = l.count + positions_moved l.digits (arcs_seen (drop l.arc-index l.arcs)) ≡ positions_moved l.digits (arcs_seen l.fn.arcs)
