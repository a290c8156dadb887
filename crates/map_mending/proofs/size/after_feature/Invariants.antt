use Rattle.kit_words.proofs.Common.{length}
use Rattle.std.specs.Prelude.{sum_by}
use Rattle.topo_reader.specs.Common.{polygon_positions}
use Rattle.map_mending.proofs.Counting.{Counts}
use Rattle.map_mending.proofs.size.after_feature.Given as goal

abbrev pub invariant-loop-rings : goal.invariant-loop-rings
invariant-loop-rings g l = Counts (sum_by length) polygon_positions l.fn.polygons l.fn.room l.left l.rings-index
