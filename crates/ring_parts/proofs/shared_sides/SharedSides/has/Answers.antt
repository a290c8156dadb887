use Rattle.kit_words.proofs.Common.{◌∙◌, ap, sym, subst, list_any, IsSorted}
use Rattle.ring_machine.specs.Common.{edge_eq}
use Rattle.ring_parts.specs.Common.{ends_of, edge_cmp}
use Rattle.ring_parts.proofs.Ways.{edge_turned}
use Rattle.ring_parts.proofs.KeptSides.{kept_by_ends}
use Rattle.ring_parts.proofs.shared_sides.SharedSides.has.Goals as goal

pub has_sorted-requires : goal.has_sorted-requires
has_sorted-requires g c = subst (IsSorted edge_cmp) (sym c.as_slice.ensures.value) c.args.self.now.ascending

pub returns : goal.returns
returns g c =
    let self = c.args.self.now in
    let r = self.first.now in
    let s = self.second.now in
    c.has_sorted.ensures
    ∙ ap (list_any (λ f. edge_eq f c.ends.result)) c.as_slice.ensures.value
    ∙ edge_turned self.sides.items c.ends.result
    ∙ ap (λ e. list_any (edge_eq e) self.sides.items) c.ends.ensures
    ∙ self.same (edge_eq (ends_of c.args.edge))
    ∙ kept_by_ends r s c.args.edge
