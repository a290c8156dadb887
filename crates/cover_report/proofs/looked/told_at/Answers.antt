use Rattle.kit_words.proofs.Common.{◌∙◌, ap, ap₂, map}
use Rattle.layer_faces.specs.Common.{faces_seen, segments_seen}
use Rattle.cover_report.specs.Faces.{all_told}
use Rattle.cover_report.specs.Uneven.{uneven_told}
use Rattle.cover_report.proofs.looked.told_at.Goals as goal

pub returns-clause-faces : goal.returns-clause-faces
returns-clause-faces g c = c.in_ok-faces.ensures ∙ ap (λ bs. all_told (faces_seen (segments_seen bs) c.args.look.faces.items)) c.as_slice-2.ensures.value

pub returns-clause-uneven : goal.returns-clause-uneven
returns-clause-uneven g c =
    c.in_ok-uneven.ensures ∙ ap₂ (λ os ns. map (uneven_told os ns) c.as_slice.result.now) c.as_slice-owners.ensures.value c.as_slice-numbers.ensures.value
    ∙ ap (map (uneven_told c.args.owned.now.owners.items c.args.owned.now.numbers.items)) c.as_slice.ensures.value
