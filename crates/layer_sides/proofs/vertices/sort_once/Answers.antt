use Rattle.layer_sides.proofs.Once.{positions_once}
use Rattle.layer_sides.proofs.vertices.sort_once.Goals as goal

pub returns : goal.returns
returns g c = positions_once _ _ _ c.sort_unstable.ensures.permutation c.sort_unstable.ensures.sorted c.dedup.ensures.filtered
