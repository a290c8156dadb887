use Rattle.kit_words.proofs.Common.{◌≡◌, ◌≤◌, ◌+◌, true, Some, refl, ap, subst, arith, OnOk, IfErr}
use Rattle.ring_machine.specs.Common.{first_of, insert_refusals, KeepsSides, ins}
use Rattle.ring_machine.proofs.Common.{inserted}
use Rattle.segment_index.specs.Common.{times_by}
use Rattle.local_planarity.specs.Common.{most_for}
use Rattle.arc_store.specs.Common.{Edits, IsRecorded, State}
use Rattle.arc_store.proofs.Common.{holds_made, keeps_last}
use Rattle.edit_vertex.specs.Common.{needs_no_pairs}
use Rattle.edit_records.specs.Common.{Inserted}
use Rattle.edit_records.proofs.InsertedFits.{insert-recorded}
use Rattle.edit_vertex.proofs.insert.insert_vertex.Goals as goal

-- the beginning of an edit changes the count of tests, and forgets what took the last one back
pub returns-clause-edits : goal.returns-clause-edits
returns-clause-edits g c =
    keeps_last c.insert_now.result
    (subst (λ (s : State). Edits s c.insert_now.new.map c.insert_now.result (first_of (insert_refusals s.doc c.args.a c.args.b c.args.q)) (record s { doc = ins s.doc c.args.a c.args.b c.args.q; last = Some (Inserted c.args.q) })) c.begin_edit.ensures.begun c.insert_now.ensures.edits)

pub returns-clause-sides : goal.returns-clause-sides
returns-clause-sides g c =
    let now = c.begin_edit.new.self in
    subst (λ (s : State). OnOk c.insert_now.result (KeepsSides s.doc c.insert_now.new.map.doc)) c.begin_edit.ensures.begun
    (holds_made (λ (s : State). KeepsSides now.doc s.doc) c.insert_now.result c.insert_now.ensures.edits (λ none. (inserted now.doc c.args.a c.args.b c.args.q c.begin_edit.ensures.proper none).1))

pub returns-clause-recorded : goal.returns-clause-recorded
returns-clause-recorded g c =
    let now = c.begin_edit.new.self in
    subst (λ (s : State). OnOk c.insert_now.result (IsRecorded s c.insert_now.new.map)) c.begin_edit.ensures.begun
    (holds_made (IsRecorded now) c.insert_now.result c.insert_now.ensures.edits (λ none. (Inserted c.args.q, refl, insert-recorded now.places now.next now.doc c.begin_edit.ensures.held c.args.a c.args.b c.args.q none)))

pub returns-clause-untested : goal.returns-clause-untested
returns-clause-untested g c =
    subst (λ n. IfErr c.insert_now.result (λ fault. needs_no_pairs fault ≡ true → c.insert_now.new.map.tests ≡ n)) (ap (λ (s : State). s.tests) c.begin_edit.ensures.begun) c.insert_now.ensures.untested

pub returns-clause-few : goal.returns-clause-few
returns-clause-few g c =
    omega (arith, subst (λ (s : State). c.insert_now.new.map.tests ≤ s.tests + most_for (times_by s.cells) s.doc (ins s.doc c.args.a c.args.b c.args.q)) c.begin_edit.ensures.begun c.insert_now.ensures.few)
