use Rattle.layer_faces.specs.Order.{side_of}
use Rattle.layer_faces.proofs.Cutting.{sorted_numbers}
use Rattle.layer_faces.proofs.order.by_label.Goals as goal

pub returns-clause-all : goal.returns-clause-all
returns-clause-all g c = sorted_numbers side_of _ _ _ c.in_ok-order.ensures c.sort_unstable.ensures.permutation
