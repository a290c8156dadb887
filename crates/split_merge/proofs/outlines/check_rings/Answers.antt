use Rattle.kit_words.proofs.Common.{sym, ap₂, ◌∙◌, ◌≤◌, arith}
use Rattle.grid_geometry.specs.Common.{edges}
use Rattle.ring_machine.specs.Common.{is_common, runs}
use Rattle.split_merge.proofs.RingConditions.{refusal, some_runs, common_beside, on_one_side, joinable}
use Rattle.split_merge.proofs.outlines.check_rings.Goals as goal

pub returns-then-n-gt1-clause-refused : goal.returns-then-n-gt1-clause-refused
returns-then-n-gt1-clause-refused g c =
    let r = c.in_ok-shared.shared.first.now in
    let s = c.in_ok-shared.shared.second.now in
    sym (ap₂ refusal c.in_ok-shared.ensures.first c.in_ok-shared.ensures.second)
    ∙ some_runs r s (sym c.has_common.ensures ∙ c.if-not-has_common.false) c.in_ok-n.n c.in_ok-n.ensures c.if-n-gt1.true

pub returns-in-Some-clause-refused : goal.returns-in-Some-clause-refused
returns-in-Some-clause-refused g c =
    let r = c.in_ok-shared.shared.first.now in
    let s = c.in_ok-shared.shared.second.now in
    let one : runs (is_common s) (edges r) ≤ 1 = omega (arith, c.in_ok-n.ensures, c.if-n-gt1.false) in
    sym (ap₂ refusal c.in_ok-shared.ensures.first c.in_ok-shared.ensures.second)
    ∙ common_beside r s (sym c.has_common.ensures ∙ c.if-not-has_common.false) one c.in-Some.pos (sym c.in_ok-pos.ensures ∙ c.in-Some.is)

pub returns-then-branch-clause-refused : goal.returns-then-branch-clause-refused
returns-then-branch-clause-refused g c =
    let r = c.in_ok-shared.shared.first.now in
    let s = c.in_ok-shared.shared.second.now in
    let one : runs (is_common s) (edges r) ≤ 1 = omega (arith, c.in_ok-n.ensures, c.if-n-gt1.false) in
    sym (ap₂ refusal c.in_ok-shared.ensures.first c.in_ok-shared.ensures.second)
    ∙ on_one_side r s (sym c.has_common.ensures ∙ c.if-not-has_common.false) one (sym c.in_ok-pos.ensures ∙ c.in_default.is) (sym c.in_ok-same_side.ensures ∙ c.if-branch.true)

pub returns-clause-accepted : goal.returns-clause-accepted
returns-clause-accepted g c =
    let r = c.in_ok-shared.shared.first.now in
    let s = c.in_ok-shared.shared.second.now in
    let one : runs (is_common s) (edges r) ≤ 1 = omega (arith, c.in_ok-n.ensures, c.if-n-gt1.false) in
    sym (ap₂ refusal c.in_ok-shared.ensures.first c.in_ok-shared.ensures.second)
    ∙ joinable r s (sym c.has_common.ensures ∙ c.if-not-has_common.false) one (sym c.in_ok-pos.ensures ∙ c.in_default.is) (sym c.in_ok-same_side.ensures ∙ c.if-branch.false)
