use Rattle.layer_sides.proofs.Once.{numbers_once}
use Rattle.layer_sides.proofs.flips.sort_once.Goals as goal

pub returns : goal.returns
returns g c = numbers_once _ _ _ c.sort_unstable.ensures.permutation c.sort_unstable.ensures.sorted c.dedup.ensures.filtered
