use Rattle.kit_words.proofs.Common.{◌∙◌, ◌++◌, ◌∷◌, [], ap, ap₂, cond, map, sym, take_all}
use Rattle.cover_report.specs.Asked.{view_asked}
use Rattle.cover_report.specs.Counted.{is_told, told}
use Rattle.cover_report.specs.Faces.{view_told}
use Rattle.cover_report.proofs.ToldLemmas.{kept_more}
use Rattle.cover_report.proofs.told.told_faces.Goals as goal

pub loop-face-init : goal.loop-face-init
loop-face-init g c = ap (map (λ f. view_told f.now)) c.new-found.ensures.items

pub loop-face-preserved : goal.loop-face-preserved
loop-face-preserved g c =
    let wants = view_asked c.args.asked.now in
    let face = c.face-item.result in
    c.in_ok-push_if.ensures
    ∙ ap₂ (λ y b. y ++ cond b (view_told face.now ∷ []) []) c.loop-face.invariant c.is_told.ensures
    ∙ sym (kept_more (is_told wants c.args.kind) (λ f. view_told f.now) c.args.faces.now c.loop-face.face-index face c.loop-face-test.true c.face-item.is)

pub returns : goal.returns
returns g c =
    c.loop-face.invariant ∙ ap (λ z. told (view_asked c.args.asked.now) c.args.kind (map (λ f. view_told f.now) z)) (take_all c.loop-face.face-index c.args.faces.now c.loop-face-test.false)
