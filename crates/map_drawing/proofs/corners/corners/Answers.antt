use Rattle.kit_words.proofs.Common.{◌≡◌, IfOk, List, subst}
use Rattle.map_drawing.specs.Corners.{corners}
use Rattle.map_drawing.specs.declared.points.Point.{Point}
use Rattle.map_drawing.proofs.PathLemmas.{begun}
use Rattle.map_drawing.proofs.corners.corners.Goals as goal

pub returns-in-len1-up : goal.returns-in-len1-up
returns-in-len1-up g c =
    subst (λ (ring : List Point). IfOk c.corners_after.result (λ kept. kept.items ≡ corners ring))
    (begun c.args.ring.now c.first-item.result c.in-len1-up.len_at_least c.first-item.is) c.corners_after.ensures
