use Rattle.kit_words.proofs.Common.{rules, inr, to_z-of_z}
use Rattle.undo_ring.proofs.MapAnswers.{thin_answered, thin_stopped}
use Rattle.undo_ring.proofs.answering.leave_out.Goals as goal

pub returns-in-Ok : goal.returns-in-Ok
returns-in-Ok g c =
    thin_answered c.args.map.now c.thin.new.map c.args.bound _ c.in-Ok.removed (search (rules, to_z-of_z)) c.requires
    (record { next = c.thin.ensures.next; places = c.thin.ensures.places }) c.thin.ensures.cells c.thin.ensures.recorded c.in-Ok.ensures.some c.in-Ok.ensures.count c.in-Ok.ensures.thinned

pub returns-in-Err : goal.returns-in-Err
returns-in-Err g c =
    inr (thin_stopped c.args.map.now c.thin.new.map c.args.bound _ (search (rules, to_z-of_z)) c.in-Err.ensures.part c.thin.ensures.recorded
    (record { next = c.thin.ensures.next; places = c.thin.ensures.places }) c.thin.ensures.cells)
