use Rattle.kit_words.proofs.Common.{subst, inl, refl}
use Rattle.point_queries.specs.Common.{IsFaultOf}
use Rattle.undo_ring.proofs.MapAnswers.{neighbours_answered, neighbours_refused}
use Rattle.undo_ring.proofs.answering.neighbours_on.Goals as goal

pub returns-in-Ok : goal.returns-in-Ok
returns-in-Ok g c = neighbours_answered c.args.map.now c.args.feature c.in-Ok.found c.in-Ok.ensures.found c.in-Ok.ensures.there

pub returns-in-Err-NoFeature : goal.returns-in-Err-NoFeature
returns-in-Err-NoFeature g c =
    neighbours_refused c.args.map.now c.args.feature (subst (IsFaultOf c.args.map.now.doc c.args.feature) c.in-Err-NoFeature.field-0-is c.in-Err-NoFeature.ensures.fault)

pub returns-in-Err-OutOfMemory : goal.returns-in-Err-OutOfMemory
returns-in-Err-OutOfMemory g c = inl refl
