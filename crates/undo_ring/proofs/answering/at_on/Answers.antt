use Rattle.kit_words.proofs.Common.{inl, refl}
use Rattle.undo_ring.proofs.MapAnswers.{at_answered}
use Rattle.undo_ring.proofs.answering.at_on.Goals as goal

pub returns-in-Ok : goal.returns-in-Ok
returns-in-Ok g c = at_answered c.args.map.now c.args.position c.in-Ok.found c.in-Ok.ensures.inside c.in-Ok.ensures.border

pub returns-in-Err : goal.returns-in-Err
returns-in-Err g c = inl refl
