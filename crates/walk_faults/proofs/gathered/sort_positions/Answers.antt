use Rattle.grid_geometry.specs.Common.{position_cmp, position_eq}
use Rattle.ring_machine.proofs.Common.{position_eq-true, position_total, ties}
use Rattle.walk_faults.proofs.Ascending.{sorted_once}
use Rattle.walk_faults.proofs.gathered.sort_positions.Goals as goal

pub returns : goal.returns
returns g c =
    sorted_once position_cmp position_total position_eq position_eq-true ties _ _ _
    c.sort_unstable.ensures.permutation c.sort_unstable.ensures.sorted c.dedup.ensures.filtered
