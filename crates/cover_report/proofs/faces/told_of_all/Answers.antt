use Rattle.kit_words.proofs.Common.{◌++◌, ◌∷◌, [], ◌∙◌, sym, ap, append-nil, into_iter_items, into_iter_len, map, nothing_left}
use Rattle.layer_faces.specs.Common.{face_seen, faces_seen, segments_seen}
use Rattle.cover_report.specs.Faces.{all_told, view_told}
use Rattle.cover_report.proofs.Taken.{joined}
use Rattle.cover_report.proofs.ToldLemmas.{told-append}
use Rattle.cover_report.proofs.faces.told_of_all.Goals as goal

pub loop-face-init : goal.loop-face-init
loop-face-init g c =
    let ss = segments_seen c.args.borders.now in
    ap (λ z. map view_told z ++ all_told (faces_seen ss (into_iter_items c.into_iter-face-iterator.result))) c.new-found.ensures.items

pub loop-face-preserved : goal.loop-face-preserved
loop-face-preserved g c =
    let ss = segments_seen c.args.borders.now in
    let left = into_iter_items c.next.new.self in
    joined (map view_told c.push_told.new.found.items) (map view_told c.loop-face.found.items) (all_told (face_seen ss c.in-Some.face ∷ [])) (all_told (faces_seen ss left)) _
    c.in_ok-push_told.ensures
    (ap (λ z. map view_told c.loop-face.found.items ++ z)
    (sym (told-append (face_seen ss c.in-Some.face ∷ []) (faces_seen ss left)) ∙ ap (λ z. all_told (faces_seen ss z)) (sym c.in-Some.ensures.steps.0))
    ∙ c.loop-face.invariant)

pub returns : goal.returns
returns g c =
    let ss = segments_seen c.args.borders.now in
    let it = c.into_iter-face-iterator in
    sym (append-nil (map view_told c.loop-face.found.items))
    ∙ ap (λ z. map view_told c.loop-face.found.items ++ all_told (faces_seen ss z))
    (sym (nothing_left (into_iter_items c.loop-face.face-iterator) (into_iter_len c.loop-face.face-iterator) c.loop-face.face-iterator.rest.ok.0 c.in-None.ensures.steps.0))
    ∙ c.loop-face.invariant ∙ ap (λ z. all_told (faces_seen ss z)) it.ensures.into_iter_gives.0
