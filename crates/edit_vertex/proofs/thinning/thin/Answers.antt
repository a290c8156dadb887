use Rattle.kit_words.proofs.Common.{◌≡◌, ◌≤◌, ◌+◌, refl, sym, ap, ◌∙◌, subst, take, to_z, of_z, arith, w128, ints, fold}
use Rattle.kit_words.proofs.Common.{common_steps, take_all}
use Rattle.ring_machine.specs.Common.{Proper, vertices, KeepsSides, Thinning, thin_at, thinned}
use Rattle.ring_machine.proofs.Common.{thinned-keeps}
use Rattle.segment_index.specs.Common.{times_by}
use Rattle.arc_store.specs.Common.{State}
use Rattle.edit_vertex.specs.Common.{most_at, most_over, most_for_thin}
use Rattle.edit_vertex.proofs.Passing.{with_count, most_more, most_part}
use Rattle.edit_vertex.proofs.SidesKept.{same_keeps, part_keeps}
use Rattle.edit_vertex.proofs.ThinKept.{IsCount, none_left, thinning_kept, one_counted, as_counted}
use Rattle.edit_vertex.proofs.thinning.thin.Goals as goal
use Rattle.edit_vertex.proofs.thinning.thin.Goals.{in-Ok-true, in-Ok-false}

pub returns-in-Err-clause-part : goal.returns-in-Err-clause-part
returns-in-Err-clause-part g c =
    let same : to_z w128 (of_z w128 c.args.t) ≡ c.args.t = omega (arith, ints) in
    let old = ap (λ (s : State). s.doc) c.begin_edit.ensures.begun in
    let all = c.as_slice-ascending.ensures.value ∙ c.in_ok-vertices.ensures ∙ ap vertices old in
    (c.loop-p.p-index, c.in-Err.ensures.unchanged ∙ sym (ap (λ (s : Thinning). s.doc) c.loop-p.invariant.so_far) ∙ ap (λ t. (fold (thin_at t) (with_count c.args.map.now.doc 0) (take c.loop-p.p-index c.as_slice-ascending.result.now)).doc) same ∙ ap (λ ps. (fold (thin_at c.args.t) (with_count c.args.map.now.doc 0) (take c.loop-p.p-index ps)).doc) all)

pub returns-clause-count : goal.returns-clause-count
unfolding thinned
returns-clause-count g c =
    let same : to_z w128 (of_z w128 c.args.t) ≡ c.args.t = omega (arith, ints) in
    let old = ap (λ (s : State). s.doc) c.begin_edit.ensures.begun in
    let all = c.as_slice-ascending.ensures.value ∙ c.in_ok-vertices.ensures ∙ ap vertices old in
    sym (ap (λ (s : Thinning). s.removed) c.loop-p.invariant.so_far) ∙ ap (λ t. (fold (thin_at t) (with_count c.args.map.now.doc 0) (take c.loop-p.p-index c.as_slice-ascending.result.now)).removed) same ∙ ap (λ ps. (fold (thin_at c.args.t) (with_count c.args.map.now.doc 0) ps).removed) (take_all c.loop-p.p-index c.as_slice-ascending.result.now c.loop-p-test.false ∙ all)

pub returns-clause-thinned : goal.returns-clause-thinned
unfolding thinned
returns-clause-thinned g c =
    let same : to_z w128 (of_z w128 c.args.t) ≡ c.args.t = omega (arith, ints) in
    let old = ap (λ (s : State). s.doc) c.begin_edit.ensures.begun in
    let all = c.as_slice-ascending.ensures.value ∙ c.in_ok-vertices.ensures ∙ ap vertices old in
    sym (ap (λ (s : Thinning). s.doc) c.loop-p.invariant.so_far) ∙ ap (λ t. (fold (thin_at t) (with_count c.args.map.now.doc 0) (take c.loop-p.p-index c.as_slice-ascending.result.now)).doc) same ∙ ap (λ ps. (fold (thin_at c.args.t) (with_count c.args.map.now.doc 0) ps).doc) (take_all c.loop-p.p-index c.as_slice-ascending.result.now c.loop-p-test.false ∙ all)

-- ---- sides

pub returns-in_err-vertices-clause-sides : goal.returns-in_err-vertices-clause-sides
returns-in_err-vertices-clause-sides g c =
    subst (KeepsSides c.args.map.now.doc) (sym (ap (λ (s : State). s.doc) c.begin_edit.ensures.begun)) (same_keeps c.args.map.now.doc)

pub returns-in-Err-clause-sides : goal.returns-in-Err-clause-sides
returns-in-Err-clause-sides g c =
    let proper = subst Proper (ap (λ (s : State). s.doc) c.begin_edit.ensures.begun) c.begin_edit.ensures.proper in
    part_keeps c.args.t c.args.map.now.doc c.thin_at.new.map.doc proper (returns-in-Err-clause-part g c)

pub returns-clause-sides : goal.returns-clause-sides
returns-clause-sides g c =
    let proper = subst Proper (ap (λ (s : State). s.doc) c.begin_edit.ensures.begun) c.begin_edit.ensures.proper in
    subst (KeepsSides c.args.map.now.doc) (sym (returns-clause-thinned g c)) (thinned-keeps c.args.map.now.doc c.args.t proper).sides

-- ---- the pass

pub loop-p-init : goal.loop-p-init
loop-p-init g c =
    let begins = c.begin_edit.ensures.begun in
    record {
      so_far = ap (λ (s : State). with_count s.doc 0) (sym begins);
      few = omega arith;
      proper = c.begin_edit.ensures.proper;
      next = ap (λ (s : State). s.next) begins;
      places = ap (λ (s : State). s.places) begins;
      cells = ap (λ (s : State). s.cells) begins;
      tests = omega (arith, ap (λ (s : State). s.tests) begins);
      kept = none_left c.args.map.now c.begin_edit.new.self begins c.begin_edit.ensures.held;
      count = subst (λ (s : State). IsCount s.last 0) (sym begins) refl;
    }

pub loop-p-preserved : goal.loop-p-preserved
loop-p-preserved g c =
    let t = to_z w128 (of_z w128 c.args.t) in
    record {
      so_far = grind (arith, common_steps);
      few = elim c.if-thin_at.branch [
        | in-Ok-true w ↦ omega (arith, w.removed-is, c.loop-p.invariant.few)
        | in-Ok-false w ↦ omega (arith, w.removed-is, c.loop-p.invariant.few)
      ];
      proper = c.thin_at.ensures.proper;
      next = c.thin_at.ensures.next ∙ c.loop-p.invariant.next;
      places = c.thin_at.ensures.places ∙ c.loop-p.invariant.places;
      cells = c.thin_at.ensures.cells ∙ c.loop-p.invariant.cells;
      tests = most_more (times_by c.args.map.now.cells) t (with_count c.args.map.now.doc 0) c.loop-p.map.doc c.loop-p.removed c.as_slice-ascending.result.now c.loop-p.p-index c.p-item.result c.loop-p.map.tests c.thin_at.new.map.tests c.loop-p-test.true c.p-item.is c.loop-p.invariant.so_far c.loop-p.invariant.tests
          (subst (λ cells. c.thin_at.new.map.tests ≤ c.loop-p.map.tests + most_at (times_by cells) t c.loop-p.map.doc c.p-item.result) c.loop-p.invariant.cells c.thin_at.ensures.few);
      kept = c.thin_at.ensures.recorded c.args.map.now.doc c.loop-p.invariant.kept;
      count = elim c.if-thin_at.branch [
        | in-Ok-true w ↦ one_counted c.thin_at.new.map.last c.loop-p.removed c.if-thin_at.removed (grind (arith, common_steps)) w.removed-is
        | in-Ok-false w ↦ as_counted c.loop-p.map.last c.thin_at.new.map.last c.loop-p.removed c.if-thin_at.removed (grind (arith, common_steps)) w.removed-is c.loop-p.invariant.count
      ];
    }

pub returns-clause-few : goal.returns-clause-few
unfolding most_for_thin
returns-clause-few g c =
    let same : to_z w128 (of_z w128 c.args.t) ≡ c.args.t = omega (arith, ints) in
    let old = ap (λ (s : State). s.doc) c.begin_edit.ensures.begun in
    let all = c.as_slice-ascending.ensures.value ∙ c.in_ok-vertices.ensures ∙ ap vertices old in
    let times = times_by c.args.map.now.cells in
    let first = with_count c.args.map.now.doc 0 in
    omega (
      arith,
      c.loop-p.invariant.tests,
      ap (λ t. most_over times t first (take c.loop-p.p-index c.as_slice-ascending.result.now)) same,
      ap (λ ps. most_over times c.args.t first ps) (take_all c.loop-p.p-index c.as_slice-ascending.result.now c.loop-p-test.false ∙ all),
    )

-- what was made so far, and the removal for which there was no memory
pub returns-in-Err-clause-few : goal.returns-in-Err-clause-few
unfolding most_for_thin
returns-in-Err-clause-few g c =
    let same : to_z w128 (of_z w128 c.args.t) ≡ c.args.t = omega (arith, ints) in
    let old = ap (λ (s : State). s.doc) c.begin_edit.ensures.begun in
    let all = c.as_slice-ascending.ensures.value ∙ c.in_ok-vertices.ensures ∙ ap vertices old in
    let times = times_by c.args.map.now.cells in
    let first = with_count c.args.map.now.doc 0 in
    let t = to_z w128 (of_z w128 c.args.t) in
    let ps = c.as_slice-ascending.result.now in
    omega (
      arith,
      most_more times t first c.loop-p.map.doc c.loop-p.removed ps c.loop-p.p-index c.p-item.result c.loop-p.map.tests c.thin_at.new.map.tests c.loop-p-test.true c.p-item.is c.loop-p.invariant.so_far c.loop-p.invariant.tests
          (subst (λ cells. c.thin_at.new.map.tests ≤ c.loop-p.map.tests + most_at (times_by cells) t c.loop-p.map.doc c.p-item.result) c.loop-p.invariant.cells c.in-Err.ensures.few),
      most_part times t first ps (c.loop-p.p-index + 1),
      ap (λ z. most_over times z first ps) same,
      ap (λ z. most_over times c.args.t first z) all,
    )

-- ---- what takes it back

pub returns-clause-recorded : goal.returns-clause-recorded
returns-clause-recorded g c = thinning_kept c.args.map.now c.loop-p.map c.loop-p.invariant.kept

pub returns-in-Err-clause-recorded : goal.returns-in-Err-clause-recorded
returns-in-Err-clause-recorded g c =
    thinning_kept c.args.map.now c.thin_at.new.map (c.thin_at.ensures.recorded c.args.map.now.doc c.loop-p.invariant.kept)
