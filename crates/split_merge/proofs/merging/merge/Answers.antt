use Rattle.kit_words.proofs.Common.{Some, ap, subst, OnOk, ◌≡◌, ◌+ℤ◌, on_ok_weaker}
use Rattle.ring_machine.specs.Common.{join, area_of, first_of, merge_refusals, feature_at}
use Rattle.edit_records.specs.Common.{Exchanged}
use Rattle.edit_records.proofs.Common.{merged}
use Rattle.arc_store.specs.Common.{Edits, IsRecorded, State}
use Rattle.arc_store.proofs.Common.{keeps_last}
use Rattle.split_merge.proofs.MergeConditions.{areas_added}
use Rattle.split_merge.proofs.Recording.{merge_recorded}
use Rattle.split_merge.proofs.merging.merge.Goals as goal

-- the beginning of an edit leaves the document as it is
pub returns-clause-edits : goal.returns-clause-edits
returns-clause-edits g c =
    keeps_last c.merge_now.result
    (subst (λ (s : State). Edits s c.merge_now.new.map c.merge_now.result (first_of (merge_refusals s.doc c.args.f c.args.g)) (record s { doc = join s.doc c.args.f (feature_at s.doc c.args.g); last = Some (Exchanged (merged s.doc c.args.f c.args.g)) })) c.begin_edit.ensures.begun c.merge_now.ensures.edits)

pub returns-clause-areas : goal.returns-clause-areas
returns-clause-areas g c =
    subst (λ (s : State). OnOk c.merge_now.result (area_of (feature_at c.merge_now.new.map.doc c.args.f) ≡ area_of (feature_at s.doc c.args.f) +ℤ area_of (feature_at s.doc c.args.g))) c.begin_edit.ensures.begun
    (areas_added c.merge_now.result c.begin_edit.new.self.doc c.merge_now.new.map.doc c.args.f c.args.g c.begin_edit.ensures.proper c.merge_now.ensures.edits.accepted
    (on_ok_weaker c.merge_now.result (λ made. ap (λ (s : State). s.doc) made) c.merge_now.ensures.edits.made))

pub returns-clause-recorded : goal.returns-clause-recorded
returns-clause-recorded g c =
    subst (λ (s : State). OnOk c.merge_now.result (IsRecorded s c.merge_now.new.map)) c.begin_edit.ensures.begun
    (merge_recorded c.begin_edit.new.self c.merge_now.new.map c.begin_edit.ensures.held c.merge_now.result c.args.f c.args.g c.merge_now.ensures.edits)
