use Rattle.kit_words.proofs.Common.{◌≡◌, take}
use Rattle.grid_geometry.specs.Common.{Segment}
use Rattle.segment_sets.specs.Common.{has, AreSingle}
use Rattle.segment_sets.proofs.cell.Cell.once.Given as goal

abbrev pub invariant-loop-s : goal.invariant-loop-s
invariant-loop-s g l =
    AreSingle l.cell × ((t : Segment) → has l.cell t ≡ has (take l.s-index l.items) t)
