use Rattle.kit_words.proofs.Common.{arith}
use Rattle.map_drawing.proofs.PathLemmas.{has_second}
use Rattle.map_drawing.proofs.corners.second_point.Goals as goal

pub returns-in-len1 : goal.returns-in-len1
returns-in-len1 c =
    has_second _ c.point-item.result _ c.in-len1.len_at_least (omega (arith, c.in-len1.len_below)) c.point-item.is c.beside.ensures
