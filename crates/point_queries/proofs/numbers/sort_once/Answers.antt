use Rattle.point_queries.proofs.Ascending.{numbers_sorted}
use Rattle.point_queries.proofs.numbers.sort_once.Goals as goal

pub returns : goal.returns
returns g c = numbers_sorted _ _ _ c.sort_unstable.ensures.permutation c.sort_unstable.ensures.sorted c.dedup.ensures.filtered
