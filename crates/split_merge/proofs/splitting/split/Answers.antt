use Rattle.kit_words.proofs.Common.{◌≡◌, ◌≤◌, ◌+◌, true, sym, ap, ◌∙◌, subst, length, arith, OnOk, IfOk, IfErr, ◌+ℤ◌}
use Rattle.kit_words.proofs.Common.{on_ok_weaker}
use Rattle.ring_machine.specs.Common.{path_of, cut, area_of, feature_at}
use Rattle.segment_index.specs.Common.{times_by}
use Rattle.local_planarity.specs.Common.{most_for}
use Rattle.arc_store.specs.Common.{edit_begun, IsRecorded, State}
use Rattle.arc_store.proofs.Common.{keeps_last}
use Rattle.edit_records.specs.Common.{string_text}
use Rattle.split_merge.specs.Common.{comes_before_pairs}
use Rattle.split_merge.proofs.SplitConditions.{areas_add_up}
use Rattle.split_merge.proofs.Recording.{SplitsAlong, split_recorded}
use Rattle.split_merge.proofs.splitting.split.Goals as goal

-- the positions are the path's
pub split_now-requires-clause-long : goal.split_now-requires-clause-long
split_now-requires-clause-long g c =
    subst (λ ps. 2 ≤ length ps) (sym (c.as_slice.ensures.value ∙ c.path.view_is)) c.requires.long

pub split_now-requires-clause-short : goal.split_now-requires-clause-short
split_now-requires-clause-short g c =
    subst (λ ps. length ps ≤ 256) (sym (c.as_slice.ensures.value ∙ c.path.view_is)) c.requires.short

-- the beginning of an edit leaves the document as it is
pub returns-clause-edits : goal.returns-clause-edits
returns-clause-edits g c =
    let id = string_text c.args.id in
    let r = c.split_now.result in
    let new = c.split_now.new.map in
    keeps_last r
    (subst (λ ps. SplitsAlong c.args.f id (path_of ps) (edit_begun c.args.map.now) new r) (c.as_slice.ensures.value ∙ c.path.view_is)
    (subst (λ (s : State). SplitsAlong c.args.f id (path_of c.as_slice.result.now) s new r) c.begin_edit.ensures.begun c.split_now.ensures.edits))

pub returns-clause-untested : goal.returns-clause-untested
returns-clause-untested g c =
    subst (λ n. IfErr c.split_now.result (λ fault. comes_before_pairs fault ≡ true → c.split_now.new.map.tests ≡ n)) (ap (λ (s : State). s.tests) c.begin_edit.ensures.begun) c.split_now.ensures.untested

pub returns-clause-few : goal.returns-clause-few
returns-clause-few g c =
    let m = c.args.map.now in
    let bound : c.split_now.new.map.tests ≤ 0 + most_for (times_by m.cells) m.doc (cut m.doc c.args.f (string_text c.args.id) (path_of c.args.path) m.next) =
    subst (λ ps. c.split_now.new.map.tests ≤ 0 + most_for (times_by m.cells) m.doc (cut m.doc c.args.f (string_text c.args.id) (path_of ps) m.next)) (c.as_slice.ensures.value ∙ c.path.view_is)
    (subst (λ (s : State). c.split_now.new.map.tests ≤ s.tests + most_for (times_by s.cells) s.doc (cut s.doc c.args.f (string_text c.args.id) (path_of c.as_slice.result.now) s.next)) c.begin_edit.ensures.begun c.split_now.ensures.few) in
    omega (arith, bound)

pub returns-clause-areas : goal.returns-clause-areas
returns-clause-areas g c =
    let r = c.split_now.result in
    subst (λ (s : State). IfOk r (λ made. area_of (feature_at c.split_now.new.map.doc c.args.f) +ℤ area_of (feature_at c.split_now.new.map.doc made) ≡ area_of (feature_at s.doc c.args.f))) c.begin_edit.ensures.begun
    (areas_add_up r c.begin_edit.new.self.doc c.split_now.new.map.doc c.begin_edit.new.self.next c.args.f (string_text c.args.id) (path_of c.as_slice.result.now) c.frame.ensures.formed c.begin_edit.ensures.proper c.next_number.ensures.below c.split_now.ensures.edits.accepted c.split_now.ensures.made
    (on_ok_weaker r (λ made. ap (λ (s : State). s.doc) made) c.split_now.ensures.edits.made))

pub returns-clause-recorded : goal.returns-clause-recorded
returns-clause-recorded g c =
    subst (λ (s : State). OnOk c.split_now.result (IsRecorded s c.split_now.new.map)) c.begin_edit.ensures.begun
    (split_recorded c.begin_edit.new.self c.split_now.new.map c.begin_edit.ensures.held c.split_now.result c.args.f (string_text c.args.id) (path_of c.as_slice.result.now) c.split_now.ensures.edits)
