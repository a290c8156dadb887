use Rattle.kit_words.proofs.Common.{◌∙◌, ap, not, true, length, ◌==◌}
use Rattle.grid_geometry.specs.Common.{Edge}
use Rattle.ring_parts.proofs.KeptSides.{some_here, some_kept}
use Rattle.ring_parts.proofs.shared_sides.has_common.Goals as goal

pub returns : goal.returns
returns g c =
    let shared = c.args.shared.now in
    let r = shared.first.now in
    let s = shared.second.now in
    ap not (c.is_empty.ensures ∙ ap (λ sides. length sides == 0) c.as_slice.ensures.value)
    ∙ some_here shared.sides.items
    ∙ shared.same (λ (side : Edge). true)
    ∙ some_kept r s
