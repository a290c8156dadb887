use Rattle.kit_words.proofs.Common.{◌≡◌, ◌≤◌, ◌+◌, true, Some, refl, ap, subst, arith, OnOk, IfErr}
use Rattle.ring_machine.specs.Common.{first_of, move_refusals, KeepsSides, put}
use Rattle.ring_machine.proofs.Common.{moved}
use Rattle.segment_index.specs.Common.{times_by}
use Rattle.local_planarity.specs.Common.{most_for_move}
use Rattle.arc_store.specs.Common.{Edits, IsRecorded, State}
use Rattle.arc_store.proofs.Common.{holds_made, keeps_last}
use Rattle.edit_vertex.specs.Common.{needs_no_pairs}
use Rattle.edit_records.specs.Common.{Moved}
use Rattle.edit_records.proofs.Common.{move-recorded}
use Rattle.edit_vertex.proofs.moved.move_vertex.Goals as goal

-- the beginning of an edit changes the count of tests, and forgets what took the last one back
pub returns-clause-edits : goal.returns-clause-edits
returns-clause-edits g c =
    keeps_last c.move_now.result
    (subst (λ (s : State). Edits s c.move_now.new.map c.move_now.result (first_of (move_refusals s.doc c.args.p c.args.q)) (record s { doc = put s.doc c.args.p c.args.q; last = Some (Moved c.args.p c.args.q) })) c.begin_edit.ensures.begun c.move_now.ensures.edits)

pub returns-clause-sides : goal.returns-clause-sides
returns-clause-sides g c =
    let now = c.begin_edit.new.self in
    subst (λ (s : State). OnOk c.move_now.result (KeepsSides s.doc c.move_now.new.map.doc)) c.begin_edit.ensures.begun
    (holds_made (λ (s : State). KeepsSides now.doc s.doc) c.move_now.result c.move_now.ensures.edits (λ none. (moved now.doc c.args.p c.args.q c.begin_edit.ensures.proper none).1))

pub returns-clause-recorded : goal.returns-clause-recorded
returns-clause-recorded g c =
    let now = c.begin_edit.new.self in
    subst (λ (s : State). OnOk c.move_now.result (IsRecorded s c.move_now.new.map)) c.begin_edit.ensures.begun
    (holds_made (IsRecorded now) c.move_now.result c.move_now.ensures.edits (λ none. (Moved c.args.p c.args.q, refl, move-recorded now.places now.next now.doc c.begin_edit.ensures.held c.args.p c.args.q none)))

pub returns-clause-untested : goal.returns-clause-untested
returns-clause-untested g c =
    subst (λ n. IfErr c.move_now.result (λ fault. needs_no_pairs fault ≡ true → c.move_now.new.map.tests ≡ n)) (ap (λ (s : State). s.tests) c.begin_edit.ensures.begun) c.move_now.ensures.untested

pub returns-clause-few : goal.returns-clause-few
returns-clause-few g c =
    omega (arith, subst (λ (s : State). c.move_now.new.map.tests ≤ s.tests + most_for_move (times_by s.cells) s.doc c.args.p c.args.q) c.begin_edit.ensures.begun c.move_now.ensures.few)
