use Rattle.kit_words.proofs.Common.{◌≡◌, Some, sym, ◌∙◌, subst, OnOk}
use Rattle.ring_machine.specs.Common.{NoFeature, take_out, first_of, feature_refusals}
use Rattle.arc_store.specs.Common.{Edits, IsRecorded, State}
use Rattle.arc_store.proofs.Common.{is_refused, just_begun, keeps_last, with_refusal}
use Rattle.split_merge.proofs.Recording.{delete_recorded, missing, there}
use Rattle.split_merge.proofs.deleting.delete.Goals as goal

pub returns-then-not-has_feature-clause-edits : goal.returns-then-not-has_feature-clause-edits
returns-then-not-has_feature-clause-edits g c =
    is_refused
    (subst (λ (s : State). first_of (feature_refusals s.doc c.args.f) ≡ Some NoFeature) c.begin_edit.ensures.begun
    (missing c.begin_edit.new.self.doc c.args.f (sym c.has_feature.ensures ∙ c.if-not-has_feature.true)))
    (just_begun c.args.map.now c.begin_edit.ensures.begun)

-- the beginning of an edit leaves the document as it is
pub returns-clause-edits : goal.returns-clause-edits
returns-clause-edits g c =
    let made = with_refusal (sym (there c.begin_edit.new.self.doc c.args.f (sym c.has_feature.ensures ∙ c.if-not-has_feature.false))) c.raw_delete.ensures.edits in
    keeps_last c.raw_delete.result
    (subst (λ (s : State). Edits s c.raw_delete.new.self c.raw_delete.result (first_of (feature_refusals s.doc c.args.f)) (record s { doc = take_out s.doc c.args.f; last = c.raw_delete.new.self.last })) c.begin_edit.ensures.begun made)

pub returns-clause-recorded : goal.returns-clause-recorded
returns-clause-recorded g c =
    subst (λ (s : State). OnOk c.raw_delete.result (IsRecorded s c.raw_delete.new.self)) c.begin_edit.ensures.begun
    (delete_recorded c.begin_edit.new.self c.raw_delete.new.self c.begin_edit.ensures.held c.raw_delete.result c.args.f (sym c.has_feature.ensures ∙ c.if-not-has_feature.false) c.raw_delete.ensures.edits c.raw_delete.ensures.recorded)
