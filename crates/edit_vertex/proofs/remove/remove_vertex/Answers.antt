use Rattle.kit_words.proofs.Common.{◌≡◌, ◌≤◌, ◌+◌, true, ap, subst, arith, OnOk, IfErr}
use Rattle.ring_machine.specs.Common.{first_of, remove_refusals, KeepsSides, del}
use Rattle.ring_machine.proofs.Common.{removed}
use Rattle.segment_index.specs.Common.{times_by}
use Rattle.local_planarity.specs.Common.{most_for}
use Rattle.arc_store.specs.Common.{Edits, IsRecorded, State}
use Rattle.arc_store.proofs.Common.{holds_made, keeps_last}
use Rattle.edit_vertex.specs.Common.{needs_no_pairs}
use Rattle.edit_vertex.proofs.Recording.{removal_recorded}
use Rattle.edit_vertex.proofs.remove.remove_vertex.Goals as goal

-- the beginning of an edit changes the count of tests, and forgets what took the last one back
pub returns-clause-edits : goal.returns-clause-edits
returns-clause-edits g c =
    keeps_last c.remove_now.result
    (subst (λ (s : State). Edits s c.remove_now.new.map c.remove_now.result (first_of (remove_refusals s.doc c.args.p)) (record s { doc = del s.doc c.args.p; last = c.remove_now.new.map.last })) c.begin_edit.ensures.begun c.remove_now.ensures.edits)

pub returns-clause-sides : goal.returns-clause-sides
returns-clause-sides g c =
    let now = c.begin_edit.new.self in
    subst (λ (s : State). OnOk c.remove_now.result (KeepsSides s.doc c.remove_now.new.map.doc)) c.begin_edit.ensures.begun
    (holds_made (λ (s : State). KeepsSides now.doc s.doc) c.remove_now.result c.remove_now.ensures.edits (λ none. (removed now.doc c.args.p c.begin_edit.ensures.proper none).1))

pub returns-clause-recorded : goal.returns-clause-recorded
returns-clause-recorded g c =
    subst (λ (s : State). OnOk c.remove_now.result (IsRecorded s c.remove_now.new.map)) c.begin_edit.ensures.begun
    (removal_recorded c.remove_now.result c.args.p c.begin_edit.ensures.held c.remove_now.ensures.edits c.remove_now.ensures.recorded)

pub returns-clause-untested : goal.returns-clause-untested
returns-clause-untested g c =
    subst (λ n. IfErr c.remove_now.result (λ fault. needs_no_pairs fault ≡ true → c.remove_now.new.map.tests ≡ n)) (ap (λ (s : State). s.tests) c.begin_edit.ensures.begun) c.remove_now.ensures.untested

pub returns-clause-few : goal.returns-clause-few
returns-clause-few g c =
    omega (arith, subst (λ (s : State). c.remove_now.new.map.tests ≤ s.tests + most_for (times_by s.cells) s.doc (del s.doc c.args.p)) c.begin_edit.ensures.begun c.remove_now.ensures.few)
