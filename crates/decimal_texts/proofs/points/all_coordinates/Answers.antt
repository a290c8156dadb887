use Rattle.kit_words.proofs.Common.{arith}
use Rattle.decimal_texts.proofs.Finding.{turn, end}
use Rattle.decimal_texts.proofs.points.all_coordinates.Goals as goal

pub loop-geometry-preserved : goal.loop-geometry-preserved
loop-geometry-preserved g c =
    turn _ c.loop-geometry.geometry-index c.geometry-item.result _ _ _ (omega arith) c.geometry-item.is c.in_ok-push_coordinates.ensures
    c.loop-geometry.invariant

pub returns : goal.returns
returns g c = end _ c.loop-geometry.geometry-index _ _ (omega arith) c.loop-geometry.invariant
