use Rattle.kit_words.proofs.Common.{◌∙◌, ◌++◌, ap, flat_mapped_more, map, sym, take, take_all}
use Rattle.cover_report.specs.Counted.{faces_of}
use Rattle.cover_report.specs.Faces.{view_told}
use Rattle.cover_report.specs.Layers.{LookedAt, view_looked}
use Rattle.cover_report.proofs.told.all_faces.Goals as goal

pub loop-looked-init : goal.loop-looked-init
loop-looked-init g c = ap (map (λ f. view_told f.now)) c.new-found.ensures.items

pub loop-looked-preserved : goal.loop-looked-preserved
loop-looked-preserved g c =
    c.in_ok-push_faces.ensures
    ∙ ap (λ z. z ++ map view_told c.as_slice.result.now) c.loop-looked.invariant
    ∙ ap (λ z. faces_of (map view_looked (take c.loop-looked.looked-index c.args.looks.now)) ++ map view_told z) c.as_slice.ensures.value
    ∙ sym (flat_mapped_more (λ (k : LookedAt). k.faces) view_looked c.args.looks.now c.loop-looked.looked-index c.looked-item.result c.loop-looked-test.true c.looked-item.is)

pub returns : goal.returns
returns g c = c.loop-looked.invariant ∙ ap (λ z. faces_of (map view_looked z)) (take_all c.loop-looked.looked-index c.args.looks.now c.loop-looked-test.false)
