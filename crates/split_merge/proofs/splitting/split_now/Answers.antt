use Rattle.kit_words.proofs.Common.{◌≡◌, ◌≤◌, ◌+◌, true, refl, sym, subst, IfErr-weaker}
use Rattle.ring_machine.specs.Common.{path_of, cut, first_of, split_refusals}
use Rattle.segment_index.specs.Common.{times_by}
use Rattle.local_planarity.specs.Common.{most_for}
use Rattle.arc_store.specs.Common.{Refuses}
use Rattle.arc_store.proofs.Common.{is_refused}
use Rattle.split_merge.specs.Common.{early_refusals, comes_before_pairs}
use Rattle.edit_records.specs.Common.{string_text}
use Rattle.split_merge.proofs.FirstRefusal.{refuses_first}
use Rattle.split_merge.proofs.Recording.{SplitsAlong}
use Rattle.split_merge.proofs.Late.{split_late, not_early}
use Rattle.split_merge.proofs.SplitConditions.{late_refusals, split_groups, passed}
use Rattle.split_merge.proofs.splitting.split_now.Goals as goal

pub returns-in-Err-clause-edits : goal.returns-in-Err-clause-edits
returns-in-Err-clause-edits g c =
    let s = c.args.map.now in
    let id = string_text c.args.id.now in
    let path = path_of c.args.positions.now in
    is_refused
    (subst (λ rs. Refuses c.in-Err.fault (first_of rs)) (sym (split_groups s.doc s.next c.args.f id path))
    (refuses_first c.in-Err.fault (early_refusals s.doc c.args.f path) (late_refusals s.doc s.next c.args.f id path) c.in-Err.ensures.refused))
    refl

pub raw_split-requires-clause-there : goal.raw_split-requires-clause-there
raw_split-requires-clause-there g c =
    (passed c.args.map.now.doc c.args.f (path_of c.args.positions.now) c.in_default.ensures.accepted).there

pub raw_split-requires-clause-inside : goal.raw_split-requires-clause-inside
raw_split-requires-clause-inside g c =
    (passed c.args.map.now.doc c.args.f (path_of c.args.positions.now) c.in_default.ensures.accepted).collected

pub raw_split-requires-clause-cut : goal.raw_split-requires-clause-cut
raw_split-requires-clause-cut g c =
    (passed c.args.map.now.doc c.args.f (path_of c.args.positions.now) c.in_default.ensures.accepted).cuts

pub raw_split-requires-clause-different : goal.raw_split-requires-clause-different
raw_split-requires-clause-different g c =
    (passed c.args.map.now.doc c.args.f (path_of c.args.positions.now) c.in_default.ensures.accepted).distinct

pub raw_split-requires-clause-free : goal.raw_split-requires-clause-free
raw_split-requires-clause-free g c =
    (passed c.args.map.now.doc c.args.f (path_of c.args.positions.now) c.in_default.ensures.accepted).free

pub raw_split-requires-clause-new : goal.raw_split-requires-clause-new
raw_split-requires-clause-new g c =
    (passed c.args.map.now.doc c.args.f (path_of c.args.positions.now) c.in_default.ensures.accepted).new

-- the text is the JSON string of the id
pub returns-clause-edits : goal.returns-clause-edits
returns-clause-edits g c =
    subst (λ t. SplitsAlong c.args.f t (path_of c.args.positions.now) c.args.map.now c.raw_split.new.self c.raw_split.result) c.in_ok-text.ensures.text c.raw_split.ensures.edits

pub returns-clause-few : goal.returns-clause-few
returns-clause-few g c =
    let s = c.args.map.now in
    subst (λ t. c.raw_split.new.self.tests ≤ s.tests + most_for (times_by s.cells) s.doc (cut s.doc c.args.f t (path_of c.args.positions.now) s.next)) c.in_ok-text.ensures.text c.raw_split.ensures.few

pub returns-clause-untested : goal.returns-clause-untested
returns-clause-untested g c =
    let s = c.args.map.now in
    let id = string_text c.args.id.now in
    let path = path_of c.args.positions.now in
    IfErr-weaker c.raw_split.result (λ fault. Refuses fault (first_of (split_refusals s.doc s.next c.args.f id path))) (λ fault. comes_before_pairs fault ≡ true → c.raw_split.new.self.tests ≡ s.tests)
    (λ fault h. not_early fault (split_late s.doc s.next c.args.f id path c.in_default.ensures.accepted fault h))
    (returns-clause-edits g c).refused
