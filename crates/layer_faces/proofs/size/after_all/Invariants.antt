use Rattle.kit_words.proofs.Common.{length}
use Rattle.std.specs.Prelude.{sum_by}
use Rattle.layer_faces.proofs.Counting.{Counts, polygon_positions}
use Rattle.layer_faces.proofs.size.after_all.Given as goal

abbrev pub invariant-loop-rings : goal.invariant-loop-rings
invariant-loop-rings g l = Counts (sum_by length) polygon_positions l.fn.polygons l.fn.room l.left l.rings-index
