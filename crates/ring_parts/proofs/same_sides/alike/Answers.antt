use Rattle.kit_words.proofs.Common.{◌≡◌, ◌∙◌, ap, filter, list_any, filter_same, rules}
use Rattle.grid_geometry.specs.Common.{edges}
use Rattle.ring_machine.specs.Common.{edge_eq}
use Rattle.ring_parts.specs.Common.{is_shared}
use Rattle.ring_parts.proofs.Searching.{any_permuted}
use Rattle.ring_parts.proofs.KeptSides.{alike_kept}
use Rattle.ring_parts.proofs.same_sides.alike.Goals as goal

pub returns : goal.returns
returns g c =
    let r = c.args.shared.now.first.now in
    let s = c.args.shared.now.second.now in
    let left : c.retain.new.self.items ≡ filter (is_shared r s) c.in_ok-sorted.sorted.items = filter_same _ (is_shared r s) _ (λ e b f k. search rules) _ _ c.retain.ensures.filtered in
    let kept = left ∙ ap (filter (is_shared r s)) c.in_ok-sorted.ensures in
    c.any_edge.ensures
    ∙ (λ i. list_any (λ e. list_any (edge_eq e) (c.as_slice-2.ensures.value i)) ((c.as_slice.ensures.value ∙ c.in_ok-edges.ensures) i))
    ∙ (λ i. list_any (λ e. (any_permuted (edge_eq e) c.retain.new.self.items c.sort_unstable.new.self.items c.sort_unstable.ensures.permutation ∙ ap (list_any (edge_eq e)) kept) i) (edges c.args.ones.now))
    ∙ alike_kept r s c.args.ones.now c.args.others.now c.requires.first c.requires.second
