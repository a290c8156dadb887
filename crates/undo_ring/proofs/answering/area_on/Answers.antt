use Rattle.kit_words.proofs.Common.{refl, ◌∙◌, rules, false≢true, to_z-of_z}
use Rattle.undo_ring.proofs.MapAnswers.{area_answered, area_refused}
use Rattle.undo_ring.proofs.answering.area_on.Goals as goal

pub returns-in-Ok : goal.returns-in-Ok
returns-in-Ok g c =
    area_answered c.args.map.now c.args.feature _ (search (rules, to_z-of_z) ∙ c.in-Ok.ensures.area) (c.in-Ok.ensures.there.0 refl)

pub returns-in-Err : goal.returns-in-Err
returns-in-Err g c = area_refused c.args.map.now c.args.feature (λ h. false≢true (c.in-Err.ensures.there.1 h))
