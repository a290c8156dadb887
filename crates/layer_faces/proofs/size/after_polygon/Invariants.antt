use Rattle.kit_words.proofs.Common.{length}
use Rattle.layer_faces.proofs.Counting.{Counts, positions_of}
use Rattle.layer_faces.proofs.size.after_polygon.Given as goal

abbrev pub invariant-loop-ring : goal.invariant-loop-ring
invariant-loop-ring g l = Counts length positions_of l.fn.rings l.fn.room l.left l.ring-index
