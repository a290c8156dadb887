use Rattle.kit_words.proofs.Common.{◌≡◌, None, Some, sym, ◌∙◌, subst, Ok}
use Rattle.ring_machine.specs.Common.{NoFeature, renamed, first_of, feature_refusals}
use Rattle.arc_store.specs.Common.{Edits, IsRecorded, State}
use Rattle.arc_store.specs.declared.fault.EditFault.TheVariants.{OutOfMemory}
use Rattle.arc_store.proofs.Common.{is_refused, hands_on, just_begun, keeps_last}
use Rattle.split_merge.proofs.Recording.{rename_recorded, missing}
use Rattle.split_merge.proofs.renaming.rename.Goals as goal

pub returns-then-not-has_feature-clause-edits : goal.returns-then-not-has_feature-clause-edits
returns-then-not-has_feature-clause-edits g c =
    is_refused
    (subst (λ (s : State). first_of (feature_refusals s.doc c.args.f) ≡ Some NoFeature) c.begin_edit.ensures.begun
    (missing c.begin_edit.new.self.doc c.args.f (sym c.has_feature.ensures ∙ c.if-not-has_feature.true)))
    (just_begun c.args.map.now c.begin_edit.ensures.begun)

pub returns-in_err-text-clause-edits : goal.returns-in_err-text-clause-edits
returns-in_err-text-clause-edits g c =
    hands_on OutOfMemory c.from_residual.result c.from_residual.ensures.1 tt (just_begun c.args.map.now c.begin_edit.ensures.begun)

-- the beginning of an edit leaves the document as it is, and the text is the JSON string of the id
pub returns-clause-edits : goal.returns-clause-edits
returns-clause-edits g c =
    let is = rename_recorded c.begin_edit.new.self c.raw_rename.new.self c.begin_edit.ensures.held c.args.f c.in_ok-text.text.items (sym c.has_feature.ensures ∙ c.if-not-has_feature.false) c.raw_rename.ensures.renamed in
    let m = c.args.map.now in
    let new = c.raw_rename.new.self in
    keeps_last (Ok tt)
    (subst (λ t. Edits (record m { tests = 0; last = None }) new (Ok tt) (first_of (feature_refusals m.doc c.args.f)) (record m { doc = renamed m.doc c.args.f t; tests = 0; last = new.last })) c.in_ok-text.ensures.text
    (subst (λ (s : State). Edits s new (Ok tt) (first_of (feature_refusals s.doc c.args.f)) (record s { doc = renamed s.doc c.args.f c.in_ok-text.text.items; last = new.last })) c.begin_edit.ensures.begun is.edits))

pub returns-clause-recorded : goal.returns-clause-recorded
returns-clause-recorded g c =
    let is = rename_recorded c.begin_edit.new.self c.raw_rename.new.self c.begin_edit.ensures.held c.args.f c.in_ok-text.text.items (sym c.has_feature.ensures ∙ c.if-not-has_feature.false) c.raw_rename.ensures.renamed in
    subst (λ (s : State). IsRecorded s c.raw_rename.new.self) c.begin_edit.ensures.begun is.recorded
