use Rattle.kit_words.proofs.Common.{List, None, Some, subst}
use Rattle.map_drawing.specs.Corners.{IsSecond}
use Rattle.map_drawing.specs.declared.points.Point.{Point}
use Rattle.map_drawing.proofs.PathLemmas.{goes_on, stays}
use Rattle.map_drawing.proofs.corners.visible.Goals as goal

pub returns-in_ok-push-in-Some : goal.returns-in_ok-push-in-Some
returns-in_ok-push-in-Some g c =
    goes_on _ _ _ c.in-Some.second c.in_ok-kept.ensures
    (subst (λ (ring : List Point). IsSecond ring (Some c.in-Some.second)) c.as_slice.ensures.value c.in-Some.ensures) c.in_ok-push-in-Some.ensures.items

pub returns-in-None : goal.returns-in-None
returns-in-None g c =
    stays _ _ c.in_ok-kept.ensures (subst (λ (ring : List Point). IsSecond ring None) c.as_slice.ensures.value c.in-None.ensures)
