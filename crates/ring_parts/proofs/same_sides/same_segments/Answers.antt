use Rattle.kit_words.proofs.Common.{◌∙◌, ◌&&◌, ap, ap₂, sym, list_all}
use Rattle.grid_geometry.specs.Common.{edges}
use Rattle.ring_machine.specs.Common.{is_common}
use Rattle.ring_parts.proofs.KeptSides.{first_all, second_all}
use Rattle.ring_parts.proofs.same_sides.same_segments.Goals as goal

pub returns-then-not-all_pass : goal.returns-then-not-all_pass
returns-then-not-all_pass g c =
    let r = c.args.shared.now.first.now in
    let s = c.args.shared.now.second.now in
    ap (λ b. b && list_all (is_common r) (edges s)) (sym c.if-not-all_pass.true ∙ c.all_pass.ensures ∙ first_all r s c.as_slice.result.now (c.as_slice.ensures.value ∙ c.in_ok-ones.ensures))

pub returns : goal.returns
returns g c =
    let r = c.args.shared.now.first.now in
    let s = c.args.shared.now.second.now in
    c.all_pass-2.ensures
    ∙ second_all r s c.as_slice-2.result.now (c.as_slice-2.ensures.value ∙ c.in_ok-others.ensures)
    ∙ ap (λ b. b && list_all (is_common r) (edges s)) (sym c.if-not-all_pass.false ∙ c.all_pass.ensures ∙ first_all r s c.as_slice.result.now (c.as_slice.ensures.value ∙ c.in_ok-ones.ensures))
