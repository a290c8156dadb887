use Rattle.kit_words.proofs.Common.{◌≡◌, sym, subst, to_z, of_z, rules, w128, to_z-of_z}
use Rattle.ring_machine.specs.Common.{Move, Insert, Remove, Thin, Merge, Delete}
use Rattle.undo_ring.specs.Common.{AnswersMap}
use Rattle.undo_ring.proofs.MapAnswers.{move_answered, insert_answered, remove_answered, merge_answered, delete_answered}
use Rattle.undo_ring.proofs.answering.answer.Goals as goal

pub returns-in-Move : goal.returns-in-Move
returns-in-Move g c =
    rw c.in-Move.is (subst (AnswersMap c.args.map.now c.move_vertex.new.map (Move c.in-Move.from c.in-Move.to)) (sym c.done.ensures)
    (move_answered _ c.args.map.now c.move_vertex.new.map c.requires.taken c.in-Move.from c.in-Move.to c.move_vertex.result c.move_vertex.ensures.edits c.move_vertex.ensures.recorded))

pub returns-in-Insert : goal.returns-in-Insert
returns-in-Insert g c =
    rw c.in-Insert.is (subst (AnswersMap c.args.map.now c.insert_vertex.new.map (Insert c.in-Insert.a c.in-Insert.b c.in-Insert.new)) (sym c.done-in-Insert.ensures)
    (insert_answered _ c.args.map.now c.insert_vertex.new.map c.requires.taken c.in-Insert.a c.in-Insert.b c.in-Insert.new c.insert_vertex.result c.insert_vertex.ensures.edits c.insert_vertex.ensures.recorded))

pub returns-in-Remove : goal.returns-in-Remove
returns-in-Remove g c =
    rw c.in-Remove.is (subst (AnswersMap c.args.map.now c.remove_vertex.new.map (Remove c.in-Remove.vertex)) (sym c.done-in-Remove.ensures)
    (remove_answered _ c.args.map.now c.remove_vertex.new.map c.requires.taken c.in-Remove.vertex c.remove_vertex.result c.remove_vertex.ensures.edits c.remove_vertex.ensures.recorded))

pub returns-in-Merge : goal.returns-in-Merge
returns-in-Merge g c =
    rw c.in-Merge.is (subst (AnswersMap c.args.map.now c.merge.new.map (Merge c.in-Merge.stays c.in-Merge.goes)) (sym c.done-in-Merge.ensures)
    (merge_answered _ c.args.map.now c.merge.new.map c.requires.taken c.in-Merge.stays c.in-Merge.goes c.merge.result c.merge.ensures.edits c.merge.ensures.recorded))

pub returns-in-Delete : goal.returns-in-Delete
returns-in-Delete g c =
    rw c.in-Delete.is (subst (AnswersMap c.args.map.now c.delete.new.map (Delete c.in-Delete.feature)) (sym c.done-in-Delete.ensures)
    (delete_answered _ c.args.map.now c.delete.new.map c.requires.taken c.in-Delete.feature c.delete.result c.delete.ensures.edits c.delete.ensures.recorded))

pub returns-in-Thin : goal.returns-in-Thin
returns-in-Thin g c =
    let same : to_z w128 (of_z w128 c.in-Thin.bound) ≡ c.in-Thin.bound = search (rules, to_z-of_z) in
    rw c.in-Thin.is (subst (λ z. AnswersMap c.args.map.now c.leave_out.new.map (Thin z) c.leave_out.result) same c.leave_out.ensures)

pub returns-in-Split : goal.returns-in-Split
returns-in-Split g c = rw c.in-Split.is c.cut.ensures

pub returns-in-Rename : goal.returns-in-Rename
returns-in-Rename g c = rw c.in-Rename.is c.name.ensures

pub returns-in-Area : goal.returns-in-Area
returns-in-Area g c = rw c.in-Area.is c.area_on.ensures

pub returns-in-At : goal.returns-in-At
returns-in-At g c = rw c.in-At.is c.at_on.ensures

pub returns-in-Neighbours : goal.returns-in-Neighbours
returns-in-Neighbours g c = rw c.in-Neighbours.is c.neighbours_on.ensures
