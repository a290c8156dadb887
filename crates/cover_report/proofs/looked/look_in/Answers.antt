use Rattle.kit_words.proofs.Common.{◌∙◌, ap, length, subst, sym}
use Rattle.layer_faces.specs.Common.{faces_seen, segments_seen}
use Rattle.layer_sides.specs.Common.{IsProperLayer, borders_seen}
use Rattle.ring_parts.specs.Common.{polygons_seen}
use Rattle.cover_report.proofs.Looks.{found_in}
use Rattle.cover_report.proofs.looked.look_in.Goals as goal

pub look_at-requires-clause-proper : goal.look_at-requires-clause-proper
look_at-requires-clause-proper g c = subst (λ ps. IsProperLayer (polygons_seen ps)) (sym c.as_slice.ensures.value) c.requires.proper

pub look_at-requires-clause-owned : goal.look_at-requires-clause-owned
look_at-requires-clause-owned g c =
    ap length c.as_slice-2.ensures.value ∙ c.requires.owned ∙ ap length (sym c.as_slice.ensures.value)

pub returns-in_ok-told_at-in-Ok-clause-found : goal.returns-in_ok-told_at-in-Ok-clause-found
returns-in_ok-told_at-in-Ok-clause-found g c =
    let look = c.in-Ok.look in
    found_in _ _ (polygons_seen c.as_slice.result.now) c.as_slice-2.result.now (borders_seen look.borders.items) (faces_seen (segments_seen look.borders.items) look.faces.items)
    look.uneven.items look.sums (ap polygons_seen c.as_slice.ensures.value) c.as_slice-2.ensures.value
    c.in-Ok.ensures.borders c.in-Ok.ensures.faces c.in-Ok.ensures.uneven c.in-Ok.ensures.sums c.in-Ok.ensures.add_up
    c.in_ok-told_at-in-Ok.ensures.named c.in_ok-told_at-in-Ok.ensures.faces c.in_ok-told_at-in-Ok.ensures.uneven c.in_ok-told_at-in-Ok.ensures.sums
