use Rattle.kit_words.proofs.Common.{sym, subst, ap, ◌∙◌, map, is_some}
use Rattle.edit_records.specs.Common.{documents}
use Rattle.ring_machine.specs.Common.{KeepsSides}
use Rattle.arc_store.specs.Common.{record_seen, State}
use Rattle.undo_ring.specs.Common.{HasComing, touched_by, Edited}
use Rattle.edit_records.specs.Common.{command_of}
use Rattle.undo_ring.proofs.BoxesKept.{editor_known, ready_at}
use Rattle.undo_ring.proofs.Recording.{trail_after, applied_after, failed_after, newer_after}
use Rattle.undo_ring.proofs.SidesKept.{answer_keeps}
use Rattle.undo_ring.proofs.editor.Editor.apply.Goals as goal

pub invariant_of-self : goal.invariant_of-self
invariant_of-self g c =
    let e = c.self.inside in
    record {
      trail = trail_after record_seen e.held c.answer_near-answer.new.map c.take_record-made.new.self e.records c.keep.new.records c.self.invariant.trail
          c.next_number.ensures.held c.next_number.ensures.keeps c.take_record-made.result c.take_record-made.ensures.handed c.take_record-made.ensures.taken c.keep.ensures
          c.answer_near-answer.result (command_of c.args.command) c.answer_near-answer.ensures.answers;
      known = editor_known c.answer_near-answer.new.near c.follow.new.self e.held c.answer_near-answer.new.map
          (documents e.held.places e.held.doc (map record_seen e.records.items)) _ e.records.capacity c.args.command
          (c.answer_near-answer.ensures.known _ c.self.invariant.known) c.answer_near-answer.result c.answer_near-answer.ensures.answers
          (ready_at e.near c.answer_near-answer.new.near.boxes e.held.doc _ (HasComing e.held.doc (command_of c.args.command)) c.answer_near-answer.result c.self.invariant.known c.answer_near-answer.ensures.ready)
          c.take_record-made.new.self c.take_record-made.ensures.taken (is_some c.take_record-made.result) c.is_some.result c.is_some.ensures
          c.touched_by-touched.result (c.touched_by-touched.ensures ∙ ap (λ n. touched_by n (command_of c.args.command)) c.next_number.ensures.next)
          (newer_after record_seen e.held c.answer_near-answer.new.map c.take_record-made.new.self e.records c.keep.new.records c.self.invariant.trail
          c.next_number.ensures.held c.next_number.ensures.keeps c.take_record-made.result c.take_record-made.ensures.handed c.take_record-made.ensures.taken c.keep.ensures
          c.answer_near-answer.result (command_of c.args.command) c.answer_near-answer.ensures.answers)
          c.follow.ensures.changed c.follow.ensures.same;
    }

pub returns-clause-applied : goal.returns-clause-applied
returns-clause-applied g c =
    let e = c.self.inside in
    applied_after record_seen e.held c.answer_near-answer.new.map c.take_record-made.new.self e.records c.keep.new.records c.self.invariant.trail
    c.next_number.ensures.held c.next_number.ensures.keeps c.take_record-made.result c.take_record-made.ensures.handed c.take_record-made.ensures.taken c.keep.ensures
    c.answer_near-answer.result (command_of c.args.command) c.answer_near-answer.ensures.answers c.args.self.now c.self.view_is

pub returns-clause-failed : goal.returns-clause-failed
returns-clause-failed g c =
    let e = c.self.inside in
    failed_after record_seen e.held c.answer_near-answer.new.map c.take_record-made.new.self e.records c.keep.new.records c.self.invariant.trail
    c.next_number.ensures.held c.next_number.ensures.keeps c.take_record-made.result c.take_record-made.ensures.handed c.take_record-made.ensures.taken c.keep.ensures
    c.answer_near-answer.result (command_of c.args.command) c.answer_near-answer.ensures.answers c.args.self.now c.self.view_is

pub returns-clause-sides : goal.returns-clause-sides
returns-clause-sides g c = λ edits.
    let e = c.self.inside in
    subst (λ (z : Edited). KeepsSides z.map.doc c.take_record-made.new.self.doc) c.self.view_is
    (subst (λ (z : State). KeepsSides e.held.doc z.doc) (sym c.take_record-made.ensures.taken)
    (answer_keeps e.held c.answer_near-answer.new.map (command_of c.args.command) c.next_number.ensures.held.map.proper c.answer_near-answer.result c.answer_near-answer.ensures.answers edits))

pub answer_near-answer-requires-clause-known : goal.answer_near-answer-requires-clause-known
answer_near-answer-requires-clause-known g c = (_, c.self.invariant.known)
