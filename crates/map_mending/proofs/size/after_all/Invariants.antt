use Rattle.kit_words.proofs.Common.{length}
use Rattle.std.specs.Prelude.{sum_by}
use Rattle.topo_reader.specs.Common.{feature_positions}
use Rattle.map_mending.proofs.Counting.{Counts}
use Rattle.map_mending.proofs.size.after_all.Given as goal

abbrev pub invariant-loop-polygons : goal.invariant-loop-polygons
invariant-loop-polygons g l = Counts (sum_by (sum_by length)) feature_positions l.fn.features l.fn.room l.left l.polygons-index
