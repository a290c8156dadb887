use Rattle.kit_words.proofs.Common.{◌∙◌, ap, sym, subst, map, list_any, IsSorted}
use Rattle.grid_geometry.specs.Common.{edges}
use Rattle.ring_machine.specs.Common.{edge_eq}
use Rattle.ring_parts.specs.Common.{ends_of, edge_cmp}
use Rattle.ring_parts.proofs.Ways.{edge_turned, common_by_ends}
use Rattle.ring_parts.proofs.sides.Border.has.Goals as goal

pub has_sorted-requires : goal.has_sorted-requires
has_sorted-requires g c = subst (IsSorted edge_cmp) (sym c.as_slice.ensures.value) c.args.self.now.ascending

pub returns : goal.returns
returns g c =
    let self = c.args.self.now in
    c.has_sorted.ensures
    ∙ ap (list_any (λ f. edge_eq f c.ends.result)) c.as_slice.ensures.value
    ∙ edge_turned self.sides.items c.ends.result
    ∙ self.same c.ends.result
    ∙ ap (λ e. list_any (edge_eq e) (map ends_of (edges self.ring.now))) c.ends.ensures
    ∙ common_by_ends self.ring.now c.args.edge
