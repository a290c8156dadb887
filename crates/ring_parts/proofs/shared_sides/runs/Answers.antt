use Rattle.kit_words.proofs.Common.{◌∙◌, ap, sym, list_all}
use Rattle.grid_geometry.specs.Common.{edges}
use Rattle.ring_machine.specs.Common.{is_common}
use Rattle.ring_parts.specs.Common.{begins}
use Rattle.ring_parts.proofs.Counted.{one_run, some_runs}
use Rattle.ring_parts.proofs.KeptSides.{first_tests}
use Rattle.ring_parts.proofs.shared_sides.runs.Goals as goal

pub returns-then-all_pass : goal.returns-then-all_pass
returns-then-all_pass g c =
    let r = c.args.shared.now.first.now in
    let s = c.args.shared.now.second.now in
    let same = c.as_slice.ensures.value ∙ c.in_ok-common.ensures ∙ first_tests r s in
    one_run (is_common s) (edges r) (ap (list_all (λ b. b)) (sym same) ∙ sym c.all_pass.ensures ∙ c.if-all_pass.true)

pub returns : goal.returns
returns g c =
    let r = c.args.shared.now.first.now in
    let s = c.args.shared.now.second.now in
    let same = c.in_ok-common.ensures ∙ first_tests r s in
    c.count_begins.ensures
    ∙ ap begins (c.as_slice-else-all_pass.ensures.value ∙ same)
    ∙ some_runs (is_common s) (edges r) (ap (list_all (λ b. b)) (sym (c.as_slice.ensures.value ∙ same)) ∙ sym c.all_pass.ensures ∙ c.if-all_pass.false)
