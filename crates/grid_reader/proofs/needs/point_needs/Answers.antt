use Rattle.kit_words.proofs.Common.{arith}
use Rattle.grid_reader.proofs.Needing.{turn, end}
use Rattle.grid_reader.proofs.needs.point_needs.Goals as goal

pub loop-point-preserved : goal.loop-point-preserved
loop-point-preserved g c =
    turn _ c.loop-point.point-index c.point-item.result c.loop-point.needs _ _ (omega arith) c.point-item.is c.in_ok-needs.ensures
    c.loop-point.invariant

pub returns : goal.returns
returns g c = end _ c.loop-point.point-index _ _ (omega arith) c.loop-point.invariant
