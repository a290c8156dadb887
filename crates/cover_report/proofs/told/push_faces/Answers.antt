use Rattle.kit_words.proofs.Common.{◌∙◌, ◌++◌, ◌∷◌, [], ap, append-nil, map, map_push, mapped_more, sym, take_all}
use Rattle.cover_report.specs.Faces.{view_told}
use Rattle.cover_report.proofs.ToldLemmas.{longer}
use Rattle.cover_report.proofs.told.push_faces.Goals as goal

pub loop-face-init : goal.loop-face-init
loop-face-init g c = sym (append-nil (map (λ f. view_told f.now) c.args.found.now.items))

pub loop-face-preserved : goal.loop-face-preserved
loop-face-preserved g c =
    longer (map (λ f. view_told f.now) c.args.found.now.items) (map (λ f. view_told f.now) c.push.new.self.items) _ (map (λ f. view_told f.now) c.loop-face.found.items) (view_told c.face-item.result ∷ []) _
    (ap (map (λ f. view_told f.now)) c.in_ok-push.ensures.items ∙ map_push (λ f. view_told f.now) c.loop-face.found.items _)
    c.loop-face.invariant
    (mapped_more view_told c.args.faces.now c.loop-face.face-index c.face-item.result c.loop-face-test.true c.face-item.is)

pub returns : goal.returns
returns g c =
    c.loop-face.invariant ∙ ap (λ z. map (λ f. view_told f.now) c.args.found.now.items ++ map view_told z) (take_all c.loop-face.face-index c.args.faces.now c.loop-face-test.false)
